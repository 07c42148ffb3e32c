-- What a look for a rule tells: how far its pattern reaches, and where its expression stands in the pack.
use Rattle.std.specs.Prelude.{ℕ}
use Rattle.strings.specs.declared.Span.{Span}
use Rattle.rule_index.specs.declared.matching.Matched.{Matched}

abbrev pub matched : ℕ → Span → Matched
matched step expression = record { step = step; expression = expression }
