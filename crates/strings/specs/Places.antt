-- What a reader of strings and numbers tells: a part of the bytes by its places, and a number with the place behind it.
use Rattle.std.specs.Prelude.{ℕ}
use Rattle.strings.specs.declared.Span.{Span}
use Rattle.strings.specs.declared.Number.{Number}

abbrev pub span : ℕ → ℕ → Span
span start end = record { start = start; end = end }

abbrev pub number : ℕ → ℕ → Number
number value next = record { value = value; next = next }
