-- A text that a rule may hold is well formed. Assumes nothing.
use Rattle.std.specs.Prelude.{None}
use mathlib.Core.Path.{◌≡◌, refl}
use mathlib.Core.Bool.{Bool, true, false}
use mathlib.Core.List.{List, [], ◌∷◌}
use Prim.Native.Nat.{ℕ}
use Rattle.base.specs.Pick.{pick}
use Rattle.letters.specs.Reading.{Symbol, symbol, stray_byte, symbols_of, ill_in, first_ill}
use Rattle.rule.specs.Matching.{plain_code, plain_in, rule_text}
use Rattle.base.proofs.Arms.{clash}

plain_rest : (t b : Bool) → pick t b false ≡ true → b ≡ true
unfolding pick
plain_rest true b e = e
plain_rest false b e = clash (cc)

plain_formed : (l : List Symbol) → plain_in l ≡ true → ill_in l ≡ None
unfolding plain_in ill_in
plain_formed [] e = refl
plain_formed (symbol p c ∷ l) e = plain_formed l (plain_rest (plain_code c) (plain_in l) e)
plain_formed (stray_byte p b ∷ l) e = clash (cc)

pub text_formed : (s : List ℕ) → rule_text s ≡ true → first_ill s ≡ None
unfolding rule_text first_ill
text_formed s e = plain_formed (symbols_of s) e
