-- What the readers of a pack tell: a rule and a guessing rule, their strings by where they stand.
use Rattle.std.specs.Prelude.{ℕ}
use Rattle.strings.specs.Places.{span}
use Rattle.pack.specs.declared.rules.RuleAt.{RuleAt}
use Rattle.pack.specs.declared.guessing.GuessAt.{GuessAt}

abbrev pub rule_spans : ℕ → ℕ → ℕ → ℕ → ℕ → ℕ → ℕ → ℕ → RuleAt
rule_spans a b c d e f g h = record { pattern = span a b; left = span c d; right = span e f; expression = span g h }

abbrev pub guess_span : ℕ → ℕ → ℕ → ℕ → GuessAt
guess_span accept mask start end = record { accept = accept; mask = mask; pattern = span start end }
