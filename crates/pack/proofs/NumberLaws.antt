-- No two verdicts have the same numbers: `-one` reads a promise, `-told` makes one. Assumes nothing.
use mathlib.Core.Path.{◌≡◌, refl, ap}
use Rattle.refusals.specs.Numbers.{number_of}
use Rattle.base.proofs.Arms.{clash}
use Rattle.pack.specs
use specs.Numbers.{checked_numbers, surveyed_numbers}
use specs.declared
use declared.sections.Checked.{Checked}
use declared.sections.Checked.TheVariants as checked
use declared.sections.Surveyed.{Surveyed}
use declared.sections.Surveyed.TheVariants as surveyed

pub checked_one : (r d : Checked) → checked_numbers r ≡ checked_numbers d → r ≡ d
unfolding checked_numbers number_of
checked_one checked.Accepted checked.Accepted e = refl
checked_one (checked.Refused p) (checked.Refused q) e = cc
checked_one checked.Accepted (checked.Refused q) e = clash (cc)
checked_one (checked.Refused p) checked.Accepted e = clash (cc)

pub checked_told : (r d : Checked) → r ≡ d → checked_numbers r ≡ checked_numbers d
checked_told r d = ap checked_numbers

pub surveyed_one : (r d : Surveyed) → surveyed_numbers r ≡ surveyed_numbers d → r ≡ d
unfolding surveyed_numbers number_of
surveyed_one (surveyed.Accepted m g) (surveyed.Accepted n h) e = cc
surveyed_one (surveyed.Refused p) (surveyed.Refused q) e = cc
surveyed_one (surveyed.Accepted m g) (surveyed.Refused q) e = clash (cc)
surveyed_one (surveyed.Refused p) (surveyed.Accepted n h) e = clash (cc)

pub surveyed_told : (r d : Surveyed) → r ≡ d → surveyed_numbers r ≡ surveyed_numbers d
surveyed_told r d = ap surveyed_numbers
