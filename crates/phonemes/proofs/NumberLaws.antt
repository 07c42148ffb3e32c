-- No two answers have the same numbers: `expression_one` reads a promise, `expression_told_lem` makes one. Assumes nothing.
use Rattle.phonemes.specs.declared.answers.ExpressionFault.TheVariants.{Malformed, UnlistedName}
use Rattle.phonemes.specs.declared.answers.ExpressionFault.{ExpressionFault}
use Rattle.std.specs.Prelude.{Result, Ok, Err, ℕ}
use mathlib.Core.Path.{◌≡◌, refl, ap}
use Rattle.refusals.specs.Numbers.{number_of}
use Rattle.base.proofs.Arms.{clash}
use Rattle.phonemes.specs
use specs.Numbers.{expression_numbers}

pub expression_one : (r d : Result ℕ ExpressionFault) → expression_numbers r ≡ expression_numbers d → r ≡ d
unfolding expression_numbers number_of
expression_one (Ok m) (Ok n) e = cc
expression_one (Err Malformed) (Err Malformed) e = refl
expression_one (Err UnlistedName) (Err UnlistedName) e = refl
expression_one (Ok m) (Err Malformed) e = clash (cc)
expression_one (Ok m) (Err UnlistedName) e = clash (cc)
expression_one (Err Malformed) (Ok n) e = clash (cc)
expression_one (Err Malformed) (Err UnlistedName) e = clash (cc)
expression_one (Err UnlistedName) (Ok n) e = clash (cc)
expression_one (Err UnlistedName) (Err Malformed) e = clash (cc)

pub expression_told_lem : (r d : Result ℕ ExpressionFault) → r ≡ d → expression_numbers r ≡ expression_numbers d
expression_told_lem r d = ap expression_numbers
