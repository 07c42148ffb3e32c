use native.Mathlib.Omega.{arith}
use Rattle.rule_index.proofs.GuessLaws.{noting_laws, section_within}
use Rattle.rule_index.proofs.guessing.note_guesses.Goals as goal

pub overflow_add-at : goal.overflow_add-at
overflow_add-at c = omega (arith, section_within c.requires)

pub loop-i-init : goal.loop-i-init
loop-i-init c = search noting_laws

pub returns-in_default : goal.returns-in_default
returns-in_default c = search noting_laws

pub returns : goal.returns
returns c = search noting_laws
