-- A word's flag is up exactly where one of its applies reached the limit. Assumes nothing.
use Prim.Native.Nat.{ℕ, ◌≤◌}
use mathlib.Core.Path.{◌≡◌, refl, sym, ap, ◌∙◌}
use mathlib.Core.Bool.{Bool, true, false}
use mathlib.Core.List.Memᴰ
use mathlib.Core.List.{List, [], ◌∷◌, ◌++◌, Memᴰ}
use mathlib.Core.Logic.{◌⊎◌, inl, inr}
use lib.Dec.{leb}
use lib.ListN.{length}
use borrow.Author.Tests.{leb-true, le-leb}
use Rattle.base.specs.Pick.{pick}
use Rattle.languages.specs.declared.sets.LanguageSet.{LanguageSet}
use Rattle.choices.specs.Texts.{Text}
use Rattle.choices.specs.Apply.{Alternative, Entry, NextSet, overlong, next_set, apply, insert, start}
use Rattle.base.proofs.Arms.{clash}
use Rattle.choices.proofs.ApplyLaws.{Applied}
use Rattle.phoneme_builder.specs.Sets.{Spelling, refusal, texts, holds_text, remerged, united}
use Rattle.rule_index.specs.Matching.{Matcher}
use Rattle.phoneme_builder.specs.Passes.{Turn, rule, letter, turns_of, Ran, too_long, ran, flagged, applied, after_letter, unmatched, run, raised, on_ran, final_text, final_from, final_pass, then, main_of, word_of}
use Rattle.demands.specs.Applies.{UpWhen, ApplyOf, Reached, FinalReached, WordReached, in_main, in_common, in_language}

-- ---- flags

either_up : {P Q : Type 0} (a b : Bool) → UpWhen a P → UpWhen b Q → pick a true b ≡ true → P ⊎ Q
unfolding pick
either_up true b p q e = inl (p.up refl)
either_up false b p q e = inr (q.up e)

either_raised : {P Q : Type 0} (a b : Bool) → UpWhen a P → UpWhen b Q → P ⊎ Q → pick a true b ≡ true
unfolding pick
either_raised true b p q h = refl
either_raised false b p q (inl h) =
    let e = p.raised_by h in
    clash (cc)
either_raised false b p q (inr h) = q.raised_by h

-- one of two flags
pub either : {P Q : Type 0} {a b : Bool} → UpWhen a P → UpWhen b Q → UpWhen (pick a true b) (P ⊎ Q)
either {a} {b} p q = record { up = either_up a b p q; raised_by = either_raised a b p q }

-- the same, said otherwise
pub same_flag : {P Q : Type 0} {f g : Bool} → f ≡ g → (P → Q) → (Q → P) → UpWhen f P → UpWhen g Q
same_flag e to from p = record { up = λ u. to (p.up (e ∙ u)); raised_by = λ h. sym e ∙ p.raised_by (from h) }

pub never : {P : Type 0} {f : Bool} → f ≡ false → (P → ⊥) → UpWhen f P
never e out = record { up = λ u. clash (cc); raised_by = λ h. absurd (out h) }

-- ---- an apply of a pass

pub flagged_inv : (u : Bool) (x : Ran) (r : List Entry) (f : Bool) → flagged u x ≡ ran r f → (d : Bool) × (x ≡ ran r d) × (pick u true d ≡ f)
unfolding flagged
flagged_inv u too_long r f e = clash (cc)
flagged_inv u (ran k d) r f e = (d, cc, cc)

module _ (final : Bool) (limit : ℕ) where
  -- a rule that was applied, or a character, and then a run
  rule_run : {alts : List Alternative} {l m : List Entry} (turns : List Turn) (r : List Entry) (up : Bool) → Applied limit alts l m
      → run final limit turns m ≡ ran r up → run final limit (rule alts ∷ turns) l ≡ ran r (pick (leb limit (length m)) true up)
  unfolding run applied flagged
  rule_run turns r up e k = rw (e.is, k) refl

  letter_run : (c : Text) (l m : List Entry) (turns : List Turn) → unmatched final c l ≡ next_set m → run final limit (letter c ∷ turns) l ≡ run final limit turns m
  unfolding run after_letter
  letter_run c l m turns e = rw e refl

  -- the apply of the first turn
  pub first_apply : {alts : List Alternative} {turns : List Turn} {l m : List Entry} → Applied limit alts l m → ApplyOf final limit (rule alts ∷ turns) l m
  unfolding run
  first_apply {alts} {turns} {l} e = record { before = []; alts = alts; behind = turns; turns_are = refl; old = l; up = false; came = refl; ended = e.is }

  -- one behind it
  pub behind_rule : {alts : List Alternative} {turns : List Turn} {l m new : List Entry} → Applied limit alts l m → ApplyOf final limit turns m new
      → ApplyOf final limit (rule alts ∷ turns) l new
  behind_rule {alts} e a = record {
    before = rule alts ∷ a.before;
    alts = a.alts;
    behind = a.behind;
    turns_are = ap (λ (ts : List Turn). rule alts ∷ ts) a.turns_are;
    old = a.old;
    up = _;
    came = rule_run a.before a.old a.up e a.came;
    ended = a.ended;
  }

  pub behind_letter : {c : Text} {turns : List Turn} {l new : List Entry} (m : List Entry) → unmatched final c l ≡ next_set m → ApplyOf final limit turns m new
      → ApplyOf final limit (letter c ∷ turns) l new
  behind_letter {c} {l} m e a = record {
    before = letter c ∷ a.before;
    alts = a.alts;
    behind = a.behind;
    turns_are = ap (λ (ts : List Turn). letter c ∷ ts) a.turns_are;
    old = a.old;
    up = a.up;
    came = letter_run c l m a.before e ∙ a.came;
    ended = a.ended;
  }

  -- and back
  rule_inv : {alts : List Alternative} {l m : List Entry} (turns : List Turn) (r : List Entry) (f : Bool) → Applied limit alts l m
      → run final limit (rule alts ∷ turns) l ≡ ran r f → (d : Bool) × (run final limit turns m ≡ ran r d) × (pick (leb limit (length m)) true d ≡ f)
  unfolding run applied
  rule_inv turns r f e k = flagged_inv _ _ r f (rw e.is at k)

  rule_by : {alts : List Alternative} {turns : List Turn} {l m new : List Entry} → Applied limit alts l m → (before : List Turn) (last : List Alternative) (behind : List Turn)
      → rule alts ∷ turns ≡ before ++ rule last ∷ behind → (old : List Entry) (f : Bool) → run final limit before l ≡ ran old f → apply limit last old ≡ next_set new
      → (new ≡ m) ⊎ ApplyOf final limit turns m new
  unfolding run
  rule_by e [] last behind s old f k n = inl (cc)
  rule_by {alts} {l = l} e (t ∷ before) last behind s old f k n =
      let same : rule alts ≡ t = cc in
      let came = rule_inv before old f e (ap (λ (x : Turn). run final limit (x ∷ before) l) same ∙ k) in
      inr (record { before = before; alts = last; behind = behind; turns_are = cc; old = old; up = came.0; came = came.1; ended = n })

  of_rule : {alts : List Alternative} {turns : List Turn} {l m new : List Entry} → Applied limit alts l m → ApplyOf final limit (rule alts ∷ turns) l new
      → (new ≡ m) ⊎ ApplyOf final limit turns m new
  of_rule e a = rule_by e a.before a.alts a.behind a.turns_are a.old a.up a.came a.ended

  letter_by : {c : Text} {turns : List Turn} {new : List Entry} (l m : List Entry) → unmatched final c l ≡ next_set m → (before : List Turn) (last : List Alternative) (behind : List Turn)
      → letter c ∷ turns ≡ before ++ rule last ∷ behind → (old : List Entry) (f : Bool) → run final limit before l ≡ ran old f → apply limit last old ≡ next_set new
      → ApplyOf final limit turns m new
  letter_by l m e [] last behind s old f k n = clash (cc)
  letter_by {c} l m e (t ∷ before) last behind s old f k n =
      let same : letter c ≡ t = cc in
      let came = sym (letter_run c l m before e) ∙ ap (λ (x : Turn). run final limit (x ∷ before) l) same ∙ k in
      record { before = before; alts = last; behind = behind; turns_are = cc; old = old; up = f; came = came; ended = n }

  of_letter : {c : Text} {turns : List Turn} {l new : List Entry} (m : List Entry) → unmatched final c l ≡ next_set m → ApplyOf final limit (letter c ∷ turns) l new
      → ApplyOf final limit turns m new
  of_letter {l = l} m e a = letter_by l m e a.before a.alts a.behind a.turns_are a.old a.up a.came a.ended

of_none : (before : List Turn) (last : List Alternative) (behind : List Turn) → [] ≡ before ++ rule last ∷ behind → ⊥
of_none [] last behind s = clash (cc)
of_none (t ∷ before) last behind s = clash (cc)

-- ---- a pass: its flag is up exactly where an apply of it reached the limit

pub leb_is : (limit n : ℕ) → UpWhen (leb limit n) (limit ≤ n)
leb_is limit n = record { up = leb-true limit n; raised_by = le-leb limit n }

module _ (final : Bool) (limit : ℕ) where
  rule_reached : {alts : List Alternative} {turns : List Turn} {l m : List Entry} → Applied limit alts l m
      → (limit ≤ length m) ⊎ Reached final limit turns m → Reached final limit (rule alts ∷ turns) l
  rule_reached {m = m} e (inl h) = record { new = m; by = first_apply final limit e; many = h }
  rule_reached e (inr h) = record { new = h.new; by = behind_rule final limit e h.by; many = h.many }

  reached_rule : {turns : List Turn} {m new : List Entry} → limit ≤ length new → (new ≡ m) ⊎ ApplyOf final limit turns m new
      → (limit ≤ length m) ⊎ Reached final limit turns m
  reached_rule h (inl s) = inl (rw s at h)
  reached_rule {new = new} h (inr a) = inr (record { new = new; by = a; many = h })

  rule_flag : (alts : List Alternative) (turns : List Turn) (l r : List Entry) (f : Bool) (o : NextSet) → apply limit alts l ≡ o
      → ((m : List Entry) (d : Bool) → run final limit turns m ≡ ran r d → UpWhen d (Reached final limit turns m))
      → applied limit o (run final limit turns) ≡ ran r f → UpWhen f (Reached final limit (rule alts ∷ turns) l)
  unfolding applied
  rule_flag alts turns l r f overlong q ih e = clash (cc)
  rule_flag alts turns l r f (next_set m) q ih e =
      let came = flagged_inv _ _ r f e in
      let by : Applied limit alts l m = record { is = q } in
      same_flag came.2 (rule_reached by) (λ h. reached_rule h.many (of_rule final limit by h.by)) (either (leb_is limit (length m)) (ih m came.0 came.1))

  letter_flag : (c : Text) (turns : List Turn) (l r : List Entry) (f : Bool) (o : NextSet) → unmatched final c l ≡ o
      → ((m : List Entry) (d : Bool) → run final limit turns m ≡ ran r d → UpWhen d (Reached final limit turns m))
      → after_letter o (run final limit turns) ≡ ran r f → UpWhen f (Reached final limit (letter c ∷ turns) l)
  unfolding after_letter
  letter_flag c turns l r f overlong q ih e = clash (cc)
  letter_flag c turns l r f (next_set m) q ih e =
      same_flag refl (λ h. record { new = h.new; by = behind_letter final limit m q h.by; many = h.many })
      (λ h. record { new = h.new; by = of_letter final limit m q h.by; many = h.many }) (ih m f e)

  pub run_flag : (turns : List Turn) (l r : List Entry) (f : Bool) → run final limit turns l ≡ ran r f → UpWhen f (Reached final limit turns l)
  unfolding run
  run_flag [] l r f e = never (cc) (λ h. of_none h.by.before h.by.alts h.by.behind h.by.turns_are)
  run_flag (rule alts ∷ turns) l r f e = rule_flag alts turns l r f (apply limit alts l) refl (λ m d. run_flag turns m r d) e
  run_flag (letter c ∷ turns) l r f e = letter_flag c turns l r f (unmatched final c l) refl (λ m d. run_flag turns m r d) e

-- ---- the final passes

raised_inv : (u : Bool) (x : Spelling) (m : List Entry) (f : Bool) → raised u x ≡ texts m f → (d : Bool) × (x ≡ texts m d) × (pick u true d ≡ f)
unfolding raised
raised_inv u (refusal c) m f e = clash (cc)
raised_inv u (texts k d) m f e = (d, cc, cc)

-- uniting goes on to the rest
united_by : (t u : Bool) (x y z : Spelling) (m : List Entry) (f : Bool) (P : Type 0) → (x ≡ texts m f → P) → (y ≡ texts m f → P) → (z ≡ texts m f → P)
    → pick t x (pick u y z) ≡ texts m f → P
unfolding pick
united_by true u x y z m f P p q r e = p e
united_by false true x y z m f P p q r e = q e
united_by false false x y z m f P p q r e = r e

united_rest : (g : LanguageSet) (xs l : List Entry) (rest : List Entry → Spelling) (m : List Entry) (f : Bool) → united g xs l rest ≡ texts m f
    → (k : List Entry) × (rest k ≡ texts m f)
unfolding united
united_rest g [] l rest m f e = (l, e)
united_rest g (x ∷ xs) l rest m f e =
    united_by (holds_text x.text l) (leb 256 (length l)) _ _ _ m f _ (united_rest g xs (remerged x.text g l) rest m f) (λ k. clash (cc)) (united_rest g xs (insert x l) rest m f) e

module _ (limit : ℕ) (names : List ℕ) (rules : Matcher) where
  TextReached : Entry → Type 0
  TextReached e = Reached true limit (turns_of names rules e.text) (start e.langs)

  more_reached : {e : Entry} {old : List Entry} → TextReached e ⊎ FinalReached limit names rules old → FinalReached limit names rules (e ∷ old)
  unfolding TextReached
  more_reached {e} (inl h) = record { text = e; among = Memᴰ.head refl; reached = h }
  more_reached (inr h) = record { text = h.text; among = Memᴰ.tail h.among; reached = h.reached }

  reached_by : {e x : Entry} {old : List Entry} → TextReached x → (x ≡ e) ⊎ Memᴰ x old → TextReached e ⊎ FinalReached limit names rules old
  unfolding TextReached
  reached_by h (inl s) = inl (rw s at h)
  reached_by {x = x} h (inr m) = inr (record { text = x; among = m; reached = h })

  text_flag : (e : Entry) (old l m : List Entry) (f : Bool) (x : Ran) → run true limit (turns_of names rules e.text) (start e.langs) ≡ x
      → ((k : List Entry) (d : Bool) → final_from limit names rules old k ≡ texts m d → UpWhen d (FinalReached limit names rules old))
      → on_ran e.langs x l (final_from limit names rules old) ≡ texts m f → UpWhen f (FinalReached limit names rules (e ∷ old))
  unfolding on_ran TextReached
  text_flag e old l m f too_long q ih k = clash (cc)
  text_flag e old l m f (ran new u) q ih k =
      let came = raised_inv u _ m f k in
      let rest = united_rest e.langs new l _ m came.0 came.1 in
      same_flag came.2 more_reached (λ h. reached_by h.reached (Memᴰ.cases_cons h.among))
      (either (run_flag true limit _ _ new u q) (ih rest.0 came.0 rest.1))

  from_flag : (old l m : List Entry) (f : Bool) → final_from limit names rules old l ≡ texts m f → UpWhen f (FinalReached limit names rules old)
  unfolding final_from final_text
  from_flag [] l m f e = never (cc) (λ h. Memᴰ.not-nil h.among)
  from_flag (e ∷ old) l m f k =
      text_flag e old l m f (run true limit (turns_of names rules e.text) (start e.langs)) refl (λ k d. from_flag old k m d) k

  pub final_flag : (old m : List Entry) (f : Bool) → final_pass limit names rules old ≡ texts m f → UpWhen f (FinalReached limit names rules old)
  unfolding final_pass
  final_flag old m f e = from_flag old [] m f e

-- ---- a word

then_inv : (x : Spelling) (rest : List Entry → Spelling) (m : List Entry) (f : Bool) → then x rest ≡ texts m f
    → (l : List Entry) × (u : Bool) × (d : Bool) × (x ≡ texts l u) × (rest l ≡ texts m d) × (pick u true d ≡ f)
unfolding then
then_inv (refusal c) rest m f e = clash (cc)
then_inv (texts l u) rest m f e =
    let came = raised_inv u (rest l) m f e in
    (l, u, came.0, refl, came.1, came.2)

main_inv : (x : Ran) (l : List Entry) (u : Bool) → main_of x ≡ texts l u → x ≡ ran l u
unfolding main_of
main_inv too_long l u e = clash (cc)
main_inv (ran k d) l u e = cc

module _ (limit : ℕ) (names : List ℕ) (main common language : Matcher) (g : LanguageSet) (w : Text) where
  -- the texts that the main pass leaves, and those that the common one leaves of them
  module _ (l k : List Entry) (u v : Bool) (first : run false limit (turns_of names main w) (start g) ≡ ran l u) (second : final_pass limit names common l ≡ texts k v) where
    word_reached : Reached false limit (turns_of names main w) (start g) ⊎ (FinalReached limit names common l ⊎ FinalReached limit names language k)
        → WordReached limit names main common language g w
    word_reached (inl h) = in_main h
    word_reached (inr (inl h)) = in_common first h
    word_reached (inr (inr h)) = in_language first second h

    reached_word : WordReached limit names main common language g w
        → Reached false limit (turns_of names main w) (start g) ⊎ (FinalReached limit names common l ⊎ FinalReached limit names language k)
    reached_word (in_main h) = inl h
    reached_word (in_common {l = a} e h) =
        let same : a ≡ l = cc in
        inr (inl (rw same at h))
    reached_word (in_language {l = a} {m = b} e q h) =
        let same : b ≡ k = cc in
        inr (inr (rw same at h))

  -- the flag of a word that is spelled is up exactly where an apply of one of its passes reached the limit
  pub word_flag : (m : List Entry) (f : Bool) → word_of limit names main common language g w ≡ texts m f → UpWhen f (WordReached limit names main common language g w)
  unfolding word_of
  word_flag m f e =
      let a = then_inv _ _ m f e in
      let b = then_inv _ _ m a.2 a.4 in
      let first = main_inv _ a.0 a.1 a.3 in
      same_flag (ap (λ (d : Bool). pick a.1 true d) b.5 ∙ a.5) (word_reached a.0 b.0 a.1 b.1 first b.3) (reached_word a.0 b.0 a.1 b.1 first b.3)
      (either (run_flag false limit _ _ a.0 a.1 first)
      (either (final_flag limit names common a.0 b.0 b.1 b.3) (final_flag limit names language b.0 m b.2 b.4)))

  -- its main pass, whose flag raises the word's
  pub word_main : (m : List Entry) (f : Bool) → word_of limit names main common language g w ≡ texts m f
      → (l : List Entry) × (u : Bool) × (run false limit (turns_of names main w) (start g) ≡ ran l u) × (u ≡ true → f ≡ true)
  unfolding word_of
  word_main m f e =
      let a = then_inv _ _ m f e in
      let first = main_inv _ a.0 a.1 a.3 in
      (a.0, a.1, first, λ u. (word_flag m f e).raised_by (in_main ((run_flag false limit _ _ a.0 a.1 first).up u)))
