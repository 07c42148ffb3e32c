-- The paper's numbers of what is told of an expression.
use Rattle.phonemes.specs.declared.answers.ExpressionFault.TheVariants.{Malformed, UnlistedName}
use Rattle.phonemes.specs.declared.answers.ExpressionFault.{ExpressionFault}
use Rattle.std.specs.Prelude.{ℕ, List, [], ◌∷◌, Result, Ok, Err}
use Rattle.refusals.specs.Numbers.{number_of}
use Rattle.refusals.specs.declared.Refusal.TheVariants.{ExpressionWrong, NameUnlisted}

-- 0 and how many alternatives it has; 14, "phoneme expression wrong"; 16, "language name not in the list"
unfoldable pub expression_numbers : Result ℕ ExpressionFault → List ℕ
expression_numbers (Ok count) = 0 ∷ count ∷ []
expression_numbers (Err Malformed) = number_of ExpressionWrong ∷ []
expression_numbers (Err UnlistedName) = number_of NameUnlisted ∷ []
