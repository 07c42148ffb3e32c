-- A first character is one of Unicode's. Assumes nothing.
use mathlib.Core.Path.{◌≡◌}
use mathlib.Core.Bool.{Bool, true}
use Prim.Native.Nat.{ℕ, ◌<◌}
use native.Mathlib.Decide.{ℕ_discrete}
use native.Mathlib.Omega.{arith}
use lib.Dec.{leb}
use borrow.Author.Tests.{leb-true}
use Rattle.base.specs.Pick.{pick}
use Rattle.base.proofs.PickLaws.{and_inv}
use Rattle.letters.specs.Utf8.{within, low_second, high_second, code2, code3, code4, decode2, decode3, decode4, decode_bytes, decode_at}
use Rattle.letters.specs.declared.utf8.Step.{Step}
use Rattle.letters.specs.declared.utf8.Step.TheVariants.{Char, Ill, End}
use Rattle.rule.specs.Matching.{code_in, first_code}
use Rattle.rule_lines.specs.Rules.{Rule}
use Rattle.held.specs.Met.{codes}
use Rattle.held.proofs.Laws.{pick_by}
use Rattle.rule_lists.specs.Lists.{first_code_of}

Under : Step → Type 0
Under (Char c n) = c < codes
Under Ill = Unit {0}
Under End = Unit {0}

pick_under : (t : Bool) (a b : Step) → (t ≡ true → Under a) → Under b → Under (pick t a b)
pick_under t a b p q = pick_by Under t a b p (λ e. q)

-- the second byte behind F4 keeps it below 0x110000
four_under : (a b c d : ℕ) → within 0xF0 0xF4 a ≡ true → within (low_second a) (high_second a) b ≡ true → code4 a b c d < codes
unfolding within low_second high_second code4 pick
four_under a b c d e h = elim (ℕ_discrete a 0xF4) [
  | yes p ↦
      let w : within 0x80 0x8F b ≡ true = rw p at h in
      let v = and_inv (leb 0x80 b) (leb b 0x8F) w in
      omega (arith, leb-true 0x80 b v.0, leb-true b 0x8F v.1)
  | no p ↦ let v = and_inv (leb 0xF0 a) (leb a 0xF4) e in omega (arith, leb-true 0xF0 a v.0, leb-true a 0xF4 v.1)
]

bytes_under : (a b c d : ℕ) → Under (decode_bytes a b c d)
unfolding Under decode_bytes decode2 decode3 decode4 code2 code3
bytes_under a b c d =
    pick_under _ _ _ (λ e. omega (arith, leb-true a 0x7F e))
    (pick_under _ _ _ (λ e. pick_under _ _ _ (λ f. omega arith) tt)
    (pick_under _ _ _ (λ e. pick_under _ _ _ (λ f. pick_under _ _ _ (λ g. omega arith) tt) tt)
    (pick_under _ _ _ (λ e. pick_under _ _ _ (λ f. pick_under _ _ _ (λ g. pick_under _ _ _ (λ h. four_under a b c d e f) tt) tt) tt) tt)))

code_under : (x : Step) → Under x → code_in x < codes
unfolding Under code_in
code_under (Char c n) h = h
code_under Ill h = omega arith
code_under End h = omega arith

pub first_under : (r : Rule) → first_code_of r < codes
unfolding first_code_of first_code decode_at Under
first_under r = code_under _ (pick_under _ _ _ (λ e. bytes_under _ _ _ _) tt)
