-- A text of digits alone is UTF-8, and any other is no numeral.
use Rattle.std.proofs.Common.{ℕ, zero, suc, ◌≡◌, ◌∙◌, true≢false, true, false, ◌&&◌, List, [], ◌∷◌, arith, ap, sym, refl}
use Rattle.std.specs.List.{list_all}
use Rattle.std.specs.Char.{is_ascii_digit}
use Rattle.std.specs.Str.{IsUtf8, IsAscii, all_ascii_digits}
use Rattle.std.specs.Str.Parse.{IsNumeral}
use Rattle.std.proofs.lemmas.Str.{IsUtf8-from_ascii}
use Rattle.std.proofs.lemmas.Str.Parse.{tells_all_ascii_digits, numerals_by_value}

same : (t : List ℕ) → list_all is_ascii_digit t ≡ all_ascii_digits t
same [] = refl
same (c ∷ cs) = ap (λ b. is_ascii_digit c && b) (same cs)

ascii : (t : List ℕ) → all_ascii_digits t ≡ true → IsAscii t
ascii [] e i = omega arith
ascii (c ∷ cs) e zero = let k = (tells_all_ascii_digits.parts c cs e).0 in omega (arith, k.0, k.1)
ascii (c ∷ cs) e (suc i) = ascii cs (tells_all_ascii_digits.parts c cs e).1 i

pub digits_utf8 : (t : List ℕ) → list_all is_ascii_digit t ≡ true → IsUtf8 t
digits_utf8 t e = IsUtf8-from_ascii t (ascii t (sym (same t) ∙ e))

pub others_no_numeral : (t : List ℕ) → list_all is_ascii_digit t ≡ false → IsNumeral 10 t → ⊥
others_no_numeral t e n = true≢false (sym ((numerals_by_value (λ ds. all_ascii_digits ds ≡ true) tells_all_ascii_digits).from t n.1) ∙ (sym (same t) ∙ e))
