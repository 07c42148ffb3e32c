-- A line is told as the grammar says: what is told is in the grammar (sound), and what is in it is told (complete). Assumes nothing.
use mathlib.Core.Path.{◌≡◌, refl, sym, ap, ◌∙◌}
use mathlib.Core.Bool.{Bool, true, false, false≢true}
use mathlib.Core.List.{List, [], ◌∷◌, ◌++◌}
use mathlib.Core.Logic.{◌⊎◌}
use Prim.Native.Nat.{ℕ, ◌+◌, ◌≤◌, ◌<◌}
use native.Mathlib.Omega.{arith}
use lib.ListN.{length, drop}
use lib.Seq.{drop-drop}
use borrow.Author.Tests.{le-leb, lt-leb, leb-true}
use Rattle.base.specs.Pick.{pick, and}
use Rattle.letters.specs.Order.{same_text}
use Rattle.texts.specs.Parts.{prefix_of}
use Rattle.texts.proofs.Laws.{prefix_split}
use Rattle.languages.specs.Names.{language_name, all_letters, is_letter, common}
use Rattle.rules_parser.specs as specs
use specs.Fields.{part_of, span_end, pair_at, ends_at, Blank as blanks, FieldKind, Quoted, Plain}
use specs.Lines.{on_field, text_at, rule_told, last_two, four_at, include_word, include_at, rule_at, guess_told, accept_told, guess_end, guess_at, name_told, name_at, told_at, line_at}
use specs.Grammar.{Shape, ◌⨾◌, Just, Anything, Every, NoBlank, Blanks, Gap, Word, CommentLine, OpeningLine, Said, rule, include, guess, name, said_of, Printable, TextString, TextWord, RuleLine, IncludeLine, verdict, GuessLine, NameLine, LineSays, is_rule, is_include, is_guess, is_name}
use Rattle.rules_parser.proofs as own
use own.Ahead.{pick_where}
use own.GrammarFields.{Of, Stops, spanned, span_is, place_in_lem, place_more, text_ends, plain, pair_not, pair_told, Written, Where, Met, field_met, Parted, parted_met, Given, Follows, field_given, parted_given, blanks_follow, gap_follows, ends_in, ends_is, ends_told, pair_behind, tail_is, lead, tail_told}
use specs.declared.fields.Text.{Text}
use specs.declared.fields.Field.{Field}
use Rattle.std.specs.Prelude.{Option, Some, None, option_map}
use specs.declared.lines.FileKind.{FileKind}
use specs.declared.lines.FileKind.TheVariants.{Languages, Guesses, Rules}
use specs.declared.lines.Clause.{Clause}
use specs.declared.lines.Clause.TheVariants.{Rule, Include, Guess, Name}
use specs.declared.lines.Line.{Line}
use specs.declared.lines.Line.TheVariants.{Blank, Comment, Opens, Tells}
use Rattle.base.proofs.PickLaws.{pick_true, pick_false, and_yes, and_inv}
use Rattle.letters.proofs.OrderLaws.{same_is}

-- ---- sound: s is the file f up to the end of the line l

-- what a told line is, l being its bytes and f the file
unfoldable pub Means : FileKind → List ℕ → List ℕ → Option Line → Type 0
Means k f l (Some Blank) = Blanks l
Means k f l (Some Comment) = CommentLine l
Means k f l (Some Opens) = OpeningLine l
Means k f l (Some (Tells t)) = LineSays k l (said_of f t)
Means k f l None = Unit {0}

-- a field, or blanks and a field, in front of what follows
met_then : {k : FieldKind} {s : List ℕ} {p : ℕ} {t : Text} {q : ℕ} {A B : Shape} → (m : Met k s p t q) → A m.written → B (drop q s)
    → (A ⨾ B) (drop p s)
met_then {s} {q} m a b = (m.written, drop q s, m.place, a, b)

parted_then : {k : FieldKind} {s : List ℕ} {p : ℕ} {t : Text} {q : ℕ} {A B : Shape} → (m : Parted k s p t q) → A m.field.written → B (drop q s)
    → (Gap ⨾ A ⨾ B) (drop p s)
parted_then {s} m a b = (m.gap, drop m.from s, m.place, m.blanks, met_then m.field a b)

-- the line from p on, whose first text stands at q
module _ (s z : List ℕ) (p q : ℕ) (x : List ℕ) (e : drop p s ≡ x ++ drop q s) (b : Blanks x) where
  abbrev M : FileKind → Option Clause → Type 0
  M k c = Means k (s ++ z) (drop p s) (option_map Tells c)

  on_field_lem : (k : FileKind) (P : Text → ℕ → Type 0) (y : Option Field) (c : Text → ℕ → Option Clause) → Where P y → ((t : Text) (r : ℕ) → P t r → M k (c t r))
      → M k (on_field y c)
  unfolding on_field Where Means
  on_field_lem k P (Some f) c m h = h f.text f.next m
  on_field_lem k P None c m h = tt

  four_sound : M Rules (four_at s q)
  unfolding four_at last_two rule_told text_at Means said_of Written
  four_sound =
      on_field_lem Rules _ _ _ (field_met Quoted s q) λ t₁ q₁ m₁.
      on_field_lem Rules _ _ _ (parted_met Quoted s q₁) λ t₂ q₂ m₂.
      on_field_lem Rules _ _ _ (parted_met Quoted s q₂) λ t₃ q₃ m₃.
      on_field_lem Rules _ _ _ (parted_met Quoted s q₃) λ t₄ q₄ m₄.
      pick_where (M Rules) _ _ _
      (λ t. pick_where (M Rules) _ _ _
      (λ h.
      let h₁ = and_inv _ _ h in
      let h₂ = and_inv _ _ h₁.1 in
      let h₃ = and_inv _ _ h₂.1 in
      rw (m₁.same z, m₂.field.same z, m₃.field.same z, m₄.field.same z)
      (is_rule (
        x,
        drop q s,
        e,
        b,
        met_then {A = TextString (part_of s t₁)} m₁ (m₁.shape, h₁.0)
            (parted_then {A = TextString (part_of s t₂)} m₂ (m₂.field.shape, h₂.0)
            (parted_then {A = TextString (part_of s t₃)} m₃ (m₃.field.shape, h₃.0)
            (parted_then {A = TextString (part_of s t₄)} {B = λ l. Blanks l ⊎ CommentLine l} m₄ (m₄.field.shape, h₃.1) (tail_told s q₄ t)))),
      )))
      (λ h. tt)) (λ t. tt)

  -- behind `#include`
  include_sound : prefix_of include_word (drop q s) ≡ true → M Rules (include_at s (q + 8))
  unfolding include_at ends_at Means said_of Written
  include_sound w =
      on_field_lem Rules _ _ _ (parted_met Plain s (q + 8)) λ t r m.
      pick_where (M Rules) _ _ _
      (λ h.
      let d : drop q s ≡ include_word ++ drop (q + 8) s = sym (prefix_split include_word (drop q s) w) ∙ ap (λ (l : List ℕ). include_word ++ l) (drop-drop 8 q s) in
      rw (m.field.same z)
      (is_include (x, drop q s, e, b, (include_word, drop (q + 8) s, d, refl, parted_then {A = Word (part_of s t)} {B = Blanks} m m.field.shape (ends_told s r (leb-true _ _ h))))))
      (λ h. tt)

  rule_sound : M Rules (rule_at s q)
  unfolding rule_at Means
  rule_sound = pick_where (M Rules) _ _ _ (λ h. tt) (λ h. pick_where (M Rules) _ _ _ include_sound (λ w. four_sound))

  name_sound : M Languages (name_at s q)
  unfolding name_at name_told ends_at Means said_of Written
  name_sound =
      on_field_lem Languages _ _ _ (field_met Plain s q) λ t r m.
      pick_where (M Languages) _ _ _
      (λ h. pick_where (M Languages) _ _ _
      (λ g. rw (m.same z) (is_name (x, drop q s, e, b, met_then {A = Word (part_of s t)} {B = Blanks} m m.shape (ends_told s r (leb-true _ _ h))) g)) (λ g. tt)) (λ h. tt)

  module _ (not-comment : CommentLine (drop p s) → ⊥) (not-opening : OpeningLine (drop p s) → ⊥) where
    guess_told_lem : (t₁ t₂ t₃ : Text) (q₁ q₂ q₃ : ℕ) (v : Bool) → Met Plain s q t₁ q₁ → Parted Plain s q₁ t₂ q₂ → Parted Plain s q₂ t₃ q₃
        → length s ≤ span_end blanks s q₃
        → same_text (part_of s t₃) (verdict v) ≡ true → M Guesses (guess_told s t₁ t₂ v)
    unfolding guess_told text_at Means said_of Written
    guess_told_lem t₁ t₂ t₃ q₁ q₂ q₃ v m₁ m₂ m₃ h g =
        pick_where (M Guesses) _ _ _
        (λ i.
        let i₁ = and_inv _ _ i in
        let j : Word (verdict v) m₃.field.written = rw (same_is (part_of s t₃) (verdict v) g) at m₃.field.shape in
        rw (m₁.same z, m₂.field.same z)
        (is_guess (
          x,
          drop q s,
          e,
          b,
          met_then {A = TextWord (part_of s t₁)} m₁ (m₁.shape, i₁.0)
              (parted_then {A = TextWord (part_of s t₂)} m₂ (m₂.field.shape, i₁.1)
              (parted_then {A = Word (verdict v)} {B = Blanks} m₃ j (ends_told s q₃ h))),
        ) not-comment not-opening))
        (λ i. tt)

    guess_sound : M Guesses (guess_at s q)
    unfolding guess_at guess_end accept_told ends_at Means
    guess_sound =
        on_field_lem Guesses _ _ _ (field_met Plain s q) λ t₁ q₁ m₁.
        on_field_lem Guesses _ _ _ (parted_met Plain s q₁) λ t₂ q₂ m₂.
        on_field_lem Guesses _ _ _ (parted_met Plain s q₂) λ t₃ q₃ m₃.
        pick_where (M Guesses) _ _ _
        (λ h. pick_where (M Guesses) _ _ _ (λ g. guess_told_lem t₁ t₂ t₃ q₁ q₂ q₃ true m₁ m₂ m₃ (leb-true _ _ h) g)
        (λ g. pick_where (M Guesses) _ _ _ (λ i. guess_told_lem t₁ t₂ t₃ q₁ q₂ q₃ false m₁ m₂ m₃ (leb-true _ _ h) i) (λ i. tt)))
        (λ h. tt)

-- a pair that is not there, and a line that has it behind blanks
no_pair : (s : List ℕ) (p a b : ℕ) → NoBlank a → pair_at s (span_end blanks s p) a b ≡ false → (Blanks ⨾ Just (a ∷ b ∷ []) ⨾ Anything) (drop p s) → ⊥
no_pair s p a b n f (x, y, e, h, (u, v, d, g, o)) =
    false≢true (sym f ∙ (pair_behind s p a b x v (e ∙ rw (d, g) refl) h n).1)

told_sound : (k : FileKind) (s z : List ℕ) (p : ℕ) → pair_at s (span_end blanks s p) 47 47 ≡ false → pair_at s (span_end blanks s p) 47 42 ≡ false
    → Means k (s ++ z) (drop p s) (option_map Tells (told_at k s (span_end blanks s p)))
unfolding told_at Of
told_sound Languages s z p c o = let w = spanned blanks s p in name_sound s z p (span_end blanks s p) w.front w.place w.every
told_sound Guesses s z p c o =
    let w = spanned blanks s p in
    guess_sound s z p (span_end blanks s p) w.front w.place w.every (no_pair s p 47 47 (plain 47 (omega arith)) c) (no_pair s p 47 42 (plain 47 (omega arith)) o)
told_sound Rules s z p c o = let w = spanned blanks s p in rule_sound s z p (span_end blanks s p) w.front w.place w.every

-- what is told of a line is what the grammar says of it; z is what follows it in its file
pub line_sound : (k : FileKind) (s z : List ℕ) (p : ℕ) → Means k (s ++ z) (drop p s) (line_at k s p)
unfolding line_at Means
line_sound k s z p =
    pick_where (Means k (s ++ z) (drop p s)) _ _ _ (λ h. ends_told s p (leb-true _ _ h))
    (λ h. pick_where (Means k (s ++ z) (drop p s)) _ _ _ (lead s p 47 47 (omega arith))
    (λ c. pick_where (Means k (s ++ z) (drop p s)) _ _ _ (lead s p 47 42 (omega arith)) (told_sound k s z p c)))

-- ---- complete

pub blank_complete : (k : FileKind) (s : List ℕ) (p : ℕ) → Blanks (drop p s) → line_at k s p ≡ Some Blank
unfolding line_at
blank_complete k s p h = pick_true _ _ _ (le-leb _ _ (ends_in s p h))

pub comment_complete : (k : FileKind) (s : List ℕ) (p : ℕ) → CommentLine (drop p s) → line_at k s p ≡ Some Comment
unfolding line_at
comment_complete k s p (x, y, e, h, (u, v, d, g, o)) =
    let w = pair_behind s p 47 47 x v (e ∙ rw (d, g) refl) h (plain 47 (omega arith)) in
    pick_false _ _ _ (lt-leb _ _ w.0) ∙ pick_true _ _ _ w.1

not_both : (s : List ℕ) (q : ℕ) (t : Bool) → pair_at s q 47 47 ≡ t → pair_at s q 47 42 ≡ true → pair_at s q 47 47 ≡ false
not_both s q false e f = e
not_both s q true e f =
    let d = pair_told s q 47 47 (omega arith) e in
    let g = pair_told s q 47 42 (omega arith) f in
    let no_way : ◌≡◌ {A = ℕ} 47 42 = cc in
    absurd (omega arith)

pub opening_complete : (k : FileKind) (s : List ℕ) (p : ℕ) → OpeningLine (drop p s) → line_at k s p ≡ Some Opens
unfolding line_at
opening_complete k s p (x, y, e, h, (u, v, d, g, o)) =
    let w = pair_behind s p 47 42 x v (e ∙ rw (d, g) refl) h (plain 47 (omega arith)) in
    pick_false _ _ _ (lt-leb _ _ w.0) ∙ pick_false _ _ _ (not_both s _ _ refl w.1) ∙ pick_true _ _ _ w.1

-- the line is told, and says x in the file f
pub record Tells-as (f : List ℕ) (l : Option Line) (x : Said) : Type 0 where
  pub told : Clause
  pub is : l ≡ Some (Tells told)
  pub same : said_of f told ≡ x

-- the same of what its first text begins
record Told-as (f : List ℕ) (c : Option Clause) (x : Said) : Type 0 where
  told : Clause
  is : c ≡ Some told
  same : said_of f told ≡ x

-- a field that stands there, and what is told behind it
on_given : {f s w r : List ℕ} {x : Option Field} {y : Said} {c : Text → ℕ → Option Clause} → Given s x w r
    → ((t : Text) (q : ℕ) → part_of s t ≡ w → ((z : List ℕ) → part_of (s ++ z) t ≡ w) → drop q s ≡ r → Told-as f (c t q) y)
    → Told-as f (on_field x c) y
unfolding on_field
on_given {c} g h =
    let m = h g.part g.next g.here g.there g.place in
    record { told = m.told; is = rw g.is m.is; same = m.same }

on_true : {f : List ℕ} {y : Said} {t : Bool} {a : Option Clause} (b : Option Clause) → t ≡ true → Told-as f a y → Told-as f (pick t a b) y
on_true b e m = record { told = m.told; is = pick_true _ _ _ e ∙ m.is; same = m.same }

text_good : (s : List ℕ) (t : Text) (w : List ℕ) → part_of s t ≡ w → Printable w → text_at s t ≡ true
unfolding text_at
text_good s t w e h = rw e h

module _ (s z : List ℕ) (q : ℕ) (y : List ℕ) (d : drop q s ≡ y) where
  four_complete : (p l r e : List ℕ) → (TextString p ⨾ Gap ⨾ TextString l ⨾ Gap ⨾ TextString r ⨾ Gap ⨾ TextString e ⨾ λ t. Blanks t ⊎ CommentLine t) y
      → Told-as (s ++ z) (four_at s q) (rule p l r e)
  unfolding four_at last_two rule_told said_of Written Follows
  four_complete p l r e (x₁, y₁, d₁, (h₁, t₁), (g₂, w₂, f₂, k₂, (x₂, y₂, d₂, (h₂, t₂), (g₃, w₃, f₃, k₃, (x₃, y₃, d₃, (h₃, t₃), (g₄, w₄, f₄, k₄, (x₄, y₄, d₄, (h₄, t₄), o))))))) =
      on_given (field_given Quoted s q p x₁ y₁ (d ∙ d₁) h₁ tt) λ a₁ q₁ i₁ j₁ n₁.
      on_given (parted_given Quoted s q₁ g₂ w₂ l x₂ y₂ (n₁ ∙ f₂) k₂ d₂ h₂ tt) λ a₂ q₂ i₂ j₂ n₂.
      on_given (parted_given Quoted s q₂ g₃ w₃ r x₃ y₃ (n₂ ∙ f₃) k₃ d₃ h₃ tt) λ a₃ q₃ i₃ j₃ n₃.
      on_given (parted_given Quoted s q₃ g₄ w₄ e x₄ y₄ (n₃ ∙ f₄) k₄ d₄ h₄ tt) λ a₄ q₄ i₄ j₄ n₄.
      on_true _ (tail_is s q₄ (rw n₄ o))
      (on_true _ (and_yes _ _ (text_good s a₁ _ i₁ t₁) (and_yes _ _ (text_good s a₂ _ i₂ t₂) (and_yes _ _ (text_good s a₃ _ i₃ t₃) (text_good s a₄ _ i₄ t₄))))
      (record { told = Rule a₁ a₂ a₃ a₄; is = refl; same = rw (j₁ z, j₂ z, j₃ z, j₄ z) refl }))

  include_complete : (n : List ℕ) → (Just include_word ⨾ Gap ⨾ Word n ⨾ Blanks) y → Told-as (s ++ z) (include_at s (q + 8)) (include n)
  unfolding include_at said_of Written
  include_complete n (x₁, y₁, d₁, h₁, (g₂, w₂, f₂, k₂, (x₂, y₂, d₂, h₂, o))) =
      let m : drop (q + 8) s ≡ y₁ = place_more s q include_word y₁ (d ∙ d₁ ∙ ap (λ (l : List ℕ). l ++ y₁) h₁) in
      on_given (parted_given Plain s (q + 8) g₂ w₂ n x₂ y₂ (m ∙ f₂) k₂ d₂ h₂ (blanks_follow y₂ o)) λ a₁ q₁ i₁ j₁ n₁.
      on_true _ (ends_is s q₁ (rw n₁ o)) (record { told = Include a₁; is = refl; same = rw (j₁ z) refl })

  name_complete : (n : List ℕ) → language_name n ≡ true → (Word n ⨾ Blanks) y → Told-as (s ++ z) (name_at s q) (name n)
  unfolding name_at name_told said_of Written
  name_complete n h (x₁, y₁, d₁, h₁, o) =
      on_given (field_given Plain s q n x₁ y₁ (d ∙ d₁) h₁ (blanks_follow y₁ o)) λ a₁ q₁ i₁ j₁ n₁.
      on_true _ (ends_is s q₁ (rw n₁ o)) (on_true _ (rw i₁ h) (record { told = Name a₁; is = refl; same = rw (j₁ z) refl }))

  accepted : (v : Bool) (f : List ℕ) (a b c : Text) (m : Said) → part_of s c ≡ verdict v → Told-as f (guess_told s a b v) m
      → Told-as f (accept_told s a b c) m
  unfolding accept_told same_text pick and
  accepted true f a b c m e w = rw e w
  accepted false f a b c m e w = rw e w

  guess_complete : (p n : List ℕ) (v : Bool) → (TextWord p ⨾ Gap ⨾ TextWord n ⨾ Gap ⨾ Word (verdict v) ⨾ Blanks) y
      → Told-as (s ++ z) (guess_at s q) (guess p n v)
  unfolding guess_at guess_end guess_told said_of Written
  guess_complete p n v (x₁, y₁, d₁, (h₁, t₁), (g₂, w₂, f₂, k₂, (x₂, y₂, d₂, (h₂, t₂), (g₃, w₃, f₃, k₃, (x₃, y₃, d₃, h₃, o))))) =
      on_given (field_given Plain s q p x₁ y₁ (d ∙ d₁) h₁ (gap_follows g₂ w₂ y₁ f₂ k₂)) λ a₁ q₁ i₁ j₁ n₁.
      on_given (parted_given Plain s q₁ g₂ w₂ n x₂ y₂ (n₁ ∙ f₂) k₂ d₂ h₂ (gap_follows g₃ w₃ y₂ f₃ k₃)) λ a₂ q₂ i₂ j₂ n₂.
      on_given (parted_given Plain s q₂ g₃ w₃ (verdict v) x₃ y₃ (n₂ ∙ f₃) k₃ d₃ h₃ (blanks_follow y₃ o)) λ a₃ q₃ i₃ j₃ n₃.
      on_true _ (ends_is s q₃ (rw n₃ o))
      (accepted v _ a₁ a₂ a₃ _ i₃ (on_true _ (and_yes _ _ (text_good s a₁ _ i₁ t₁) (text_good s a₂ _ i₂ t₂)) (record { told = Guess a₁ a₂ v; is = refl; same = rw (j₁ z, j₂ z) refl })))

-- the first text stands behind x, and is no comment
told_at_lem : (k : FileKind) (s : List ℕ) (p : ℕ) (x : List ℕ) (c : ℕ) (y : List ℕ) → drop p s ≡ x ++ c ∷ y → Blanks x → NoBlank c
    → pair_at s (p + length x) 47 47 ≡ false → pair_at s (p + length x) 47 42 ≡ false → line_at k s p ≡ option_map Tells (told_at k s (p + length x))
unfolding line_at Of Stops
told_at_lem k s p x c y e h n f g =
    let q : span_end blanks s p ≡ p + length x = span_is s p blanks x (c ∷ y) e h (text_ends c n) in
    rw q (pick_false _ _ _ (lt-leb _ _ (place_in_lem s (p + length x) c y (place_more s p x (c ∷ y) e))) ∙ pick_false _ _ _ f ∙ pick_false _ _ _ g)

told_other : (k : FileKind) (s : List ℕ) (p : ℕ) (x : List ℕ) (c : ℕ) (y : List ℕ) → drop p s ≡ x ++ c ∷ y → Blanks x → NoBlank c → (c ≡ 47 → ⊥)
    → line_at k s p ≡ option_map Tells (told_at k s (p + length x))
told_other k s p x c y e h n o =
    let d = place_more s p x (c ∷ y) e in
    told_at_lem k s p x c y e h n (pair_not s (p + length x) 47 47 c y d o) (pair_not s (p + length x) 47 42 c y d o)

told_by : {f : List ℕ} {l : Option Line} {m : Option Clause} {x : Said} → l ≡ option_map Tells m → Told-as f m x → Tells-as f l x
told_by e w = record { told = w.told; is = e ∙ ap (option_map Tells) w.is; same = w.same }

-- a name begins with a letter
slash_name : (w : List ℕ) → pick (same_text (47 ∷ w) common) false (all_letters (47 ∷ w)) ≡ false
unfolding same_text all_letters is_letter pick and
slash_name w = refl

name_first : (c : ℕ) (w : List ℕ) → language_name (c ∷ w) ≡ true → c ≡ 47 → ⊥
unfolding language_name
name_first c w h e =
    let g : language_name (47 ∷ w) ≡ true = rw e at h in
    false≢true (sym (slash_name w) ∙ (and_inv _ _ (and_inv _ _ g).1).1)

module _ (s z : List ℕ) (p : ℕ) where
  rule_complete : (a l r e : List ℕ) → RuleLine a l r e (drop p s) → Tells-as (s ++ z) (line_at Rules s p) (rule a l r e)
  unfolding told_at rule_at prefix_of and
  rule_complete a l r e (x, y, d, h, (x₁, y₁, d₁, (h₁, t₁), o)) =
      let v : List ℕ = (a ++ 34 ∷ []) ++ y₁ in
      let m : y ≡ 34 ∷ v = d₁ ∙ ap (λ (v : List ℕ). v ++ y₁) h₁.0 in
      let j : drop (p + length x) s ≡ y = place_more s p x y d in
      let f : prefix_of include_word (drop (p + length x) s) ≡ false = rw (j ∙ m) refl in
      told_by (told_other Rules s p x 34 v (d ∙ ap (λ (v : List ℕ). x ++ v) m) h (plain 34 (omega arith)) (λ n. omega arith) ∙ ap (option_map Tells) (pick_false _ _ _ (lt-leb _ _ (place_in_lem s _ 34 v (j ∙ m))) ∙ pick_false _ _ _ f))
      (four_complete s z (p + length x) y j a l r e (x₁, y₁, d₁, (h₁, t₁), o))

  include_said : (n : List ℕ) → IncludeLine n (drop p s) → Tells-as (s ++ z) (line_at Rules s p) (include n)
  unfolding told_at rule_at prefix_of and
  include_said n (x, y, d, h, (x₁, y₁, d₁, h₁, o)) =
      let m : y ≡ include_word ++ y₁ = d₁ ∙ ap (λ (v : List ℕ). v ++ y₁) h₁ in
      let v : List ℕ = drop 1 include_word ++ y₁ in
      let j : drop (p + length x) s ≡ y = place_more s p x y d in
      let f : prefix_of include_word (drop (p + length x) s) ≡ true = rw (j ∙ m) refl in
      told_by (told_other Rules s p x 35 v (d ∙ ap (λ (v : List ℕ). x ++ v) m) h (plain 35 (omega arith)) (λ n. omega arith) ∙ ap (option_map Tells) (pick_false _ _ _ (lt-leb _ _ (place_in_lem s _ 35 v (j ∙ m))) ∙ pick_true _ _ _ f))
      (include_complete s z (p + length x) y j n (x₁, y₁, d₁, h₁, o))

  name_said : (n : List ℕ) → NameLine n (drop p s) → language_name n ≡ true → Tells-as (s ++ z) (line_at Languages s p) (name n)
  unfolding told_at Every
  name_said [] (x, y, d, h, (x₁, y₁, d₁, (e, i, j), o)) g = absurd (i refl)
  name_said (c ∷ n) (x, y, d, h, (x₁, y₁, d₁, (e, i, j), o)) g =
      let m : y ≡ c ∷ n ++ y₁ = d₁ ∙ ap (λ (v : List ℕ). v ++ y₁) e in
      told_by (told_other Languages s p x c (n ++ y₁) (d ∙ ap (λ (v : List ℕ). x ++ v) m) h j.0 (name_first c n g))
      (name_complete s z (p + length x) y (place_more s p x y d) (c ∷ n) g (x₁, y₁, d₁, (e, i, j), o))

  -- a line that the pair does not begin
  unpaired : (a b : ℕ) (x : List ℕ) (c : ℕ) (y : List ℕ) → 0 < b → drop p s ≡ x ++ c ∷ y → Blanks x
      → ((Blanks ⨾ Just (a ∷ b ∷ []) ⨾ Anything) (drop p s) → ⊥)
      → (t : Bool) → pair_at s (p + length x) a b ≡ t → t ≡ false
  unpaired a b x c y l d h n false e = refl
  unpaired a b x c y l d h n true e =
      absurd (n (x, c ∷ y, d, h, (a ∷ b ∷ [], drop (p + length x + 2) s, sym (place_more s p x (c ∷ y) d) ∙ pair_told s (p + length x) a b l e, refl, tt)))

  guess_said : (a n : List ℕ) (v : Bool) → GuessLine a n v (drop p s) → (CommentLine (drop p s) → ⊥) → (OpeningLine (drop p s) → ⊥)
      → Tells-as (s ++ z) (line_at Guesses s p) (guess a n v)
  unfolding told_at Every
  guess_said [] n v (x, y, d, h, (x₁, y₁, d₁, ((e, i, j), t₁), o)) f g = absurd (i refl)
  guess_said (c ∷ a) n v (x, y, d, h, (x₁, y₁, d₁, ((e, i, j), t₁), o)) f g =
      let m : y ≡ c ∷ a ++ y₁ = d₁ ∙ ap (λ (v : List ℕ). v ++ y₁) e in
      let k : drop p s ≡ x ++ c ∷ (a ++ y₁) = d ∙ ap (λ (v : List ℕ). x ++ v) m in
      told_by (told_at_lem Guesses s p x c (a ++ y₁) k h j.0 (unpaired 47 47 x c (a ++ y₁) (omega arith) k h f _ refl) (unpaired 47 42 x c (a ++ y₁) (omega arith) k h g _ refl))
      (guess_complete s z (p + length x) y (place_more s p x y d) (c ∷ a) n v (x₁, y₁, d₁, ((e, i, j), t₁), o))

-- what the grammar says of a line is told so; z is what follows it in its file
pub says_complete : {k : FileKind} (s z : List ℕ) (p : ℕ) (l : List ℕ) {x : Said} → drop p s ≡ l → LineSays k l x → Tells-as (s ++ z) (line_at k s p) x
says_complete s z p l e (is_rule w) = rule_complete s z p _ _ _ _ (rw e w)
says_complete s z p l e (is_include w) = include_said s z p _ (rw e w)
says_complete s z p l e (is_guess w f g) = guess_said s z p _ _ _ (rw e w) (rw e f) (rw e g)
says_complete s z p l e (is_name w h) = name_said s z p _ (rw e w) h

-- a line says one thing
pub one_saying : (k : FileKind) (l : List ℕ) (x y : Said) → LineSays k l x → LineSays k l y → x ≡ y
one_saying k l x y v w =
    let a : Tells-as (l ++ []) (line_at k l 0) x = says_complete l [] 0 l refl v in
    let b : Tells-as (l ++ []) (line_at k l 0) y = says_complete l [] 0 l refl w in
    let e : Some (Tells a.told) ≡ Some (Tells b.told) = sym a.is ∙ b.is in
    let f : a.told ≡ b.told = cc in
    sym a.same ∙ ap (said_of (l ++ [])) f ∙ b.same
