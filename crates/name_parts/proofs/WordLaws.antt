-- A law for each way that the loops and branches of `words` can go. Assumes nothing.
use mathlib.Core.Path.{◌≡◌, refl, sym, ap, ◌∙◌}
use mathlib.Core.Bool.{false}
use mathlib.Core.List.{List, [], ◌∷◌}
use Prim.Native.Nat.{ℕ, zero, suc, ◌+◌, ◌-◌, ◌≤◌, ◌<◌, min}
use native.Mathlib.Nat.{add-sub_cancel_left}
use native.Mathlib.Omega.{arith}
use lib.Dec.{eqb, eqb-suc-zero, eqb-suc-suc}
use lib.ListN.{length, take, drop, drop_of_length-le, length-drop}
use lib.Seq.{drop-drop, take-nil}
use borrow.Author.Rules.{rules}
use Rattle.base.specs.Pick.{pick}
use Rattle.base.proofs.Stores.{rest_is}
use mathlib.Core.Bool.{Bool, true, not, cond}
use mathlib.Core.Logic.{⊎_elim}
use native.Mathlib.Decide.{dec_le}
use denote.Ref.{Bor}
use Rattle.std.specs.Prelude.{Option, Some, None}
use Rattle.std.specs.Option.{unwrap_or}
use Rattle.std.specs.Slice.{IsGetRangeResult}
use Rattle.std.specs.List.{prefix_len, take_while}
use Rattle.std.proofs.lemmas.List.Folds.{length-prefix_len}
use Rattle.name_parts.specs.Words.{words_of, word_at, spaces, letters, word_start, word_end, past_word, one_word}
use Rattle.name_parts.proofs.Laws.{letters_within, word_is, words_none, words_next}

-- ---- how many bytes are passed, as `take_while` counts them
spaces_is : (s : List ℕ) → spaces s ≡ prefix_len (λ b. eqb b 32) s
unfolding spaces pick
spaces_is [] = refl
spaces_is (b ∷ s) = over (eqb b 32) (spaces_is s)
  where
    over : (t : Bool) → spaces s ≡ prefix_len (λ b. eqb b 32) s → pick t (suc (spaces s)) 0 ≡ cond t (1 + prefix_len (λ b. eqb b 32) s) 0
    over true e = omega arith
    over false e = refl

letters_is : (s : List ℕ) → letters s ≡ prefix_len (λ b. not (eqb b 32)) s
unfolding letters pick
letters_is [] = refl
letters_is (b ∷ s) = over (eqb b 32) (letters_is s)
  where
    over : (t : Bool) → letters s ≡ prefix_len (λ b. not (eqb b 32)) s → pick t 0 (suc (letters s)) ≡ cond (not t) (1 + prefix_len (λ b. not (eqb b 32)) s) 0
    over true e = refl
    over false e = omega arith

-- what stands from a place on, as the code takes it
pub from_is : (s : List ℕ) (p m : ℕ) → m ≡ min p (length s) → take (length s - m) (drop m s) ≡ drop p s
from_is s p m e = rest_is s m ∙ elim (dec_le p (length s)) [
  | yes k ↦ ap (λ (j : ℕ). drop j s) (omega arith)
  | no k ↦ drop_of_length-le s (omega arith) ∙ sym (drop_of_length-le s (omega arith))
]

module _ (s : List ℕ) (p n : ℕ) (r : List ℕ) (q : r ≡ drop p s) where
  pub start_by : n ≡ length (take_while (λ b. eqb b 32) r) → p + n ≡ word_start s p
  unfolding word_start
  start_by e = ap (λ (k : ℕ). p + k) (e ∙ ap (λ (l : List ℕ). length (take_while (λ b. eqb b 32) l)) q ∙ length-prefix_len (λ b. eqb b 32) (drop p s) ∙ sym (spaces_is (drop p s)))

  pub end_by : n ≡ length (take_while (λ b. not (eqb b 32)) r) → p + n ≡ word_end s p
  unfolding word_end
  end_by e = ap (λ (k : ℕ). p + k) (e ∙ ap (λ (l : List ℕ). length (take_while (λ b. not (eqb b 32)) l)) q ∙ length-prefix_len (λ b. not (eqb b 32)) (drop p s) ∙ sym (letters_is (drop p s)))

-- ---- the part where the word stands
pub end_from : (s : List ℕ) (a e : ℕ) → e ≡ word_end s a → a ≤ e
unfolding word_end
end_from s a e p = omega arith

pub end_within : (s : List ℕ) (a e : ℕ) → a ≤ length s → e ≡ word_end s a → e ≤ length s
unfolding word_end
end_within s a e h p = omega (arith, letters_within (drop a s), length-drop a s)

module _ (s : List ℕ) (p a : ℕ) (ea : a ≡ word_start s p) where
  word_from : take (letters (drop a s)) (drop a s) ≡ word_at s p
  unfolding word_start
  word_from = sym (word_is s p ∙ rw (drop-drop, ← ea) refl)

  pub word_in : (e : ℕ) → e ≡ word_end s a → take (e - a) (drop a s) ≡ word_at s p
  unfolding word_end
  word_in e ee = rw (ee, add-sub_cancel_left) word_from

  pub word_out : length s < a → [] ≡ word_at s p
  word_out h = let l : length s ≤ a = omega arith in rw (drop_of_length-le s l, take-nil) at word_from

-- what is there of the word's part
pub word_got : (s : List ℕ) (p a e : ℕ) → a ≡ word_start s p → e ≡ word_end s a → (o : Option (Bor (List ℕ))) (d r : Bor (List ℕ)) → d.now ≡ [] → r ≡ unwrap_or o d → IsGetRangeResult s a e o → r.now ≡ word_at s p
word_got s p a e ea ee None d r h q m = ap (λ (x : Bor (List ℕ)). x.now) q ∙ h ∙ word_out s p a ea (⊎_elim (λ l. absurd (omega (arith, end_from s a e ee))) past m.0)
  where
    past : length s < e → length s < a
    past l = elim (dec_le a (length s)) [ yes k ↦ absurd (omega (arith, end_within s a e k ee)) | no k ↦ omega arith ]
word_got s p a e ea ee (Some x) d r h q m = ap (λ (x : Bor (List ℕ)). x.now) q ∙ m.0.2 ∙ word_in s p a ea e ee

pub past_by : (s : List ℕ) (p a e : ℕ) → a ≡ word_start s p → e ≡ word_end s a → e ≡ past_word s p
unfolding past_word
past_by s p a e ea ee = ee ∙ ap (word_end s) ea

-- ---- exactly one word: there is one, and none behind it
pub one_none : (s w : List ℕ) → w ≡ word_at s 0 → length w ≡ 0 → false ≡ one_word s
unfolding one_word
one_none s w ew z = sym (ap (λ (ws : List (List ℕ)). eqb (length ws) 1) (words_none s 0 (ap length (sym ew) ∙ z)))

none_by : (s : List ℕ) (q n : ℕ) → length (word_at s q) ≡ n → eqb n 0 ≡ eqb (length (words_of (drop q s))) 0
none_by s q zero e = sym (ap (λ (ws : List (List ℕ)). eqb (length ws) 0) (words_none s q e))
none_by s q (suc n) e = eqb-suc-zero n ∙ sym (ap (λ (ws : List (List ℕ)). eqb (length ws) 0) (words_next s q (λ z. absurd (omega arith))) ∙ eqb-suc-zero (length (words_of (drop (past_word s q) s))))

pub one_by : (s w v : List ℕ) (q : ℕ) → w ≡ word_at s 0 → (length w ≡ 0 → ⊥) → q ≡ past_word s 0 → v ≡ word_at s q → eqb (length v) 0 ≡ one_word s
unfolding one_word
one_by s w v q ew h eq ev =
    let next = words_next s 0 (λ z. h (ap length ew ∙ z)) in
    none_by s q _ (ap length (sym ev)) ∙ sym (ap (λ (ws : List (List ℕ)). eqb (length ws) 1) next ∙ eqb-suc-suc (length (words_of (drop (past_word s 0) s))) 0 ∙ ap (λ (k : ℕ). eqb (length (words_of (drop k s))) 0) (sym eq))

pub ruleset word_laws = (past_by, one_none, one_by, rules)
