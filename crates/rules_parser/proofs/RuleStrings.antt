-- The strings of a line that is a rule stand between its quotes, the next ones in the file. Assumes nothing.
use mathlib.Core.Path.{◌≡◌, refl, sym, ap, subst, ◌∙◌}
use mathlib.Core.Bool.{Bool}
use mathlib.Core.List.{List, [], ◌∷◌, ◌++◌, append_assoc}
use Prim.Native.Nat.{ℕ, ◌+◌, ◌-◌, ◌≤◌, ◌<◌}
use native.Mathlib.Omega.{arith}
use lib.ListN.{length, get_or, take, drop, length-append, take-append-drop}
use lib.Seq.{drop-append-le}
use borrow.Author.Rules.{rules}
use borrow.Author.Tests.{lt-ltb, le-ltb, ltb-true, eqb-true}
use Rattle.base.specs.Pick.{pick}
use Rattle.base.proofs.PickLaws.{pick_true, pick_false, pick_all}
use Rattle.rules_parser.specs as specs
use specs.Fields.{span_end, text, quoted_at, field_at, parted_at, passes_of, Kind, Blank, NotQuote, Quoted}
use specs.Lines.{on_field, rule_told, last_two, four_at, include_at, rule_at, told_at, line_at}
use specs.Files.{text_end, close_at, on_close, comment_at, on_line, item_at}
use specs.Grammar.{Every}
use specs.InnerContracts.{behind, string_from, string_after, strings_from}
use specs.declared.fields.Text.{Text}
use specs.declared.fields.Field.{Field}
use Rattle.std.specs.Prelude.{Option, Some, None, option_map}
use specs.declared.lines.FileKind.TheVariants.{Rules}
use specs.declared.lines.Clause.{Clause}
use specs.declared.lines.Clause.TheVariants.{Rule, Include, Guess, Name}
use specs.declared.lines.Line.{Line}
use specs.declared.lines.Line.TheVariants as line
use specs.declared.files.Close.{Close}
use specs.declared.files.Item.{Item}
use specs.declared.files.Item.TheVariants as item
use Rattle.rules_parser.proofs as own
use own.Ahead.{pick_where, span_in}
use own.FieldLaws.{span_low}
use own.GrammarFields.{Of, Stops, Where, span_is, spanned, place_some, plain, stop_quote}

-- ---- one string

module _ (s : List ℕ) (p q : ℕ) (e : q ≡ span_end NotQuote s p) where
  pub string_is : (n : ℕ) → q < length s → n ≡ span_end NotQuote s (q + 1) → text (q + 1) (n - (q + 1)) ≡ string_from s p
  unfolding string_from
  string_is n h f = rw (← e, f) (sym (pick_true _ _ _ (lt-ltb _ _ h)))

  pub string_none : length s ≤ q → text 0 0 ≡ string_from s p
  unfolding string_from
  string_none h = rw (← e) (sym (pick_false _ _ _ (le-ltb _ _ h)))

-- it ends within the file
pub string_within : (s : List ℕ) (q n : ℕ) → q < length s → n ≡ span_end NotQuote s (q + 1) → q + 1 + (n - (q + 1)) ≤ length s
string_within s q n h e = omega (arith, span_in NotQuote s (q + 1) (omega arith))

pub strings_are : (s : List ℕ) (p : ℕ) (a b c d : Text) → a ≡ string_from s p → b ≡ string_from s (behind a) → c ≡ string_from s (behind b) → d ≡ string_from s (behind c)
    → record { pattern = a; left = b; right = c; expression = d } ≡ strings_from s p
unfolding strings_from string_after
strings_are s p a b c d e f g h = rw (h, g, f, e) refl

pub ruleset strings = (string_is, string_none, string_within, strings_are, span_low, rules)

-- ---- the strings that the line has

-- bytes of l that k lets pass up to a quote are those up to the next quote, with more behind l too
up_to_quote : (k : Kind) (l z : List ℕ) (p : ℕ) → p ≤ length l → span_end k l p < length l → get_or l (span_end k l p) 0 ≡ 34
    → ((w : List ℕ) → Every (Of k) w → Every (Of NotQuote) w) → span_end NotQuote (l ++ z) p ≡ span_end k l p
unfolding Stops passes_of
up_to_quote k l z p o h b v =
    let w = spanned k l p in
    let d : drop p l ≡ w.front ++ (34 ∷ drop (span_end k l p + 1) l) = w.place ∙ rw (place_some l (span_end k l p) h, b) refl in
    let e : drop p (l ++ z) ≡ w.front ++ (34 ∷ (drop (span_end k l p + 1) l ++ z)) =
    drop-append-le p l z o ∙ ap (λ (t : List ℕ). t ++ z) d ∙ append_assoc w.front _ z in
    span_is (l ++ z) p NotQuote w.front _ e (v _ w.every) refl ∙ sym w.end

-- no blank is a quote
blanks_pass : (w : List ℕ) → Every (Of Blank) w → Every (Of NotQuote) w
unfolding Every Of
blanks_pass [] h = tt
blanks_pass (b ∷ w) h = (λ e. plain b (omega arith) h.0, blanks_pass w h.1)

-- a string is the next one from p on, and q the place behind it
unfoldable Next : List ℕ → ℕ → Text → ℕ → Type 0
Next s p t q = (t ≡ string_from s p) × (q ≡ behind t)

module _ (l z : List ℕ) where
  quoted_next : (p : ℕ) → Where (Next (l ++ z) p) (quoted_at l (span_end Blank l p))
  unfolding quoted_at Where Next
  quoted_next p =
      let q : ℕ = span_end Blank l p in
      pick_where (Where (Next (l ++ z) p)) _ _ _
      (λ h. pick_where (Where (Next (l ++ z) p)) _ _ _
      (λ b. pick_where (Where (Next (l ++ z) p)) _ _ _
      (λ c. let hq : q < length l = ltb-true _ _ h in
      let o : p ≤ q = span_low Blank l q p refl in
      let f : span_end NotQuote l (q + 1) < length l = ltb-true _ _ c in
      let g : q + 1 ≤ span_end NotQuote l (q + 1) = span_low NotQuote l _ (q + 1) refl in
      let i : span_end NotQuote (l ++ z) p ≡ q = up_to_quote Blank l z p (omega arith) hq (eqb-true _ _ b) blanks_pass in
      let j : span_end NotQuote (l ++ z) (q + 1) ≡ span_end NotQuote l (q + 1) = up_to_quote NotQuote l z (q + 1) (omega arith) f (stop_quote _ _ _ (place_some l _ f) (spanned NotQuote l (q + 1)).stops) (λ w x. x) in
      (string_is (l ++ z) p q (sym i) _ (omega (arith, length-append l z)) (sym j), omega arith))
      (λ c. tt)) (λ b. tt)) (λ h. tt)

  field_next : (p : ℕ) → Where (Next (l ++ z) p) (field_at Quoted l (span_end Blank l p))
  unfolding field_at
  field_next p = quoted_next p

  parted_next : (p : ℕ) → Where (Next (l ++ z) p) (parted_at Quoted l p)
  unfolding parted_at Where
  parted_next p = pick_where (Where (Next (l ++ z) p)) _ _ _ (λ h. field_next p) (λ h. tt)

-- s has the strings of the line from p on, where that is a rule
unfoldable Lined : List ℕ → ℕ → Option Clause → Type 0
Lined s p (Some (Rule a b c d)) = record { pattern = a; left = b; right = c; expression = d } ≡ strings_from s p
Lined s p (Some (Include t)) = Unit {0}
Lined s p (Some (Guess a b v)) = Unit {0}
Lined s p (Some (Name t)) = Unit {0}
Lined s p None = Unit {0}

-- the same of any line
unfoldable LineHas : List ℕ → ℕ → Option Line → Type 0
LineHas s p (Some (line.Tells t)) = Lined s p (Some t)
LineHas s p (Some line.Blank) = Unit {0}
LineHas s p (Some line.Comment) = Unit {0}
LineHas s p (Some line.Opens) = Unit {0}
LineHas s p None = Unit {0}

module _ (s : List ℕ) (p : ℕ) where
  -- one string after the other
  on_next_lem : (q : ℕ) (x : Option Field) (f : Text → ℕ → Option Clause) → Where (Next s q) x → ((t : Text) (e : ℕ) → Next s q t e → Lined s p (f t e)) → Lined s p (on_field x f)
  unfolding on_field Where Lined
  on_next_lem q (Some x) f w g = g x.text x.next w
  on_next_lem q None f w g = tt

  on_include : (x : Option Field) (t : Text → ℕ → Bool) → Lined s p (on_field x λ n e. pick (t n e) (Some (Include n)) None)
  unfolding on_field Lined
  on_include (Some x) t = pick_all (Lined s p) _ _ _ tt tt
  on_include None t = tt

module _ (l z : List ℕ) (p : ℕ) where
  four_lined : Lined (l ++ z) p (four_at l (span_end Blank l p))
  unfolding four_at last_two rule_told Next Lined
  four_lined =
      on_next_lem (l ++ z) p p _ _ (field_next l z p) (λ a q u. on_next_lem (l ++ z) p q _ _ (parted_next l z q) (λ b e v.
      on_next_lem (l ++ z) p e _ _ (parted_next l z e) (λ c n w. on_next_lem (l ++ z) p n _ _ (parted_next l z n) (λ d m x.
      pick_all (Lined (l ++ z) p) _ _ _
      (pick_all (Lined (l ++ z) p) _ _ _ (strings_are (l ++ z) p a b c d u.0 (rw u.1 at v.0) (rw v.1 at w.0) (rw w.1 at x.0)) tt) tt))))

  told_lined : Lined (l ++ z) p (told_at Rules l (span_end Blank l p))
  unfolding told_at rule_at include_at Lined
  told_lined =
      let P : Option Clause → Type 0 = Lined (l ++ z) p in
      pick_all P _ _ _ tt (pick_all P _ _ _ (on_include (l ++ z) p _ _) four_lined)

  line_lined : LineHas (l ++ z) p (line_at Rules l p)
  unfolding line_at Lined LineHas
  line_lined =
      let P : Option Line → Type 0 = LineHas (l ++ z) p in
      pick_all P _ _ _ tt (pick_all P _ _ _ tt (pick_all P _ _ _ tt (on (told_at Rules l (span_end Blank l p)) told_lined)))
    where
      on : (c : Option Clause) → Lined (l ++ z) p c → LineHas (l ++ z) p (option_map line.Tells c)
      on (Some c) w = w
      on None w = tt

-- ---- and so of an item
unfoldable Itemed : List ℕ → ℕ → Item → Type 0
Itemed s p (item.Passed k n) = Unit {0}
Itemed s p (item.Tells t n) = Lined s p (Some t)
Itemed s p item.Wrong = Unit {0}

comment_itemed : (s : List ℕ) (p : ℕ) → Itemed s p (comment_at s p)
unfolding comment_at on_close Itemed
comment_itemed s p = pick_all (Itemed s p) _ _ _ tt (on (close_at s (span_end Blank s p + 2)))
  where
    on : (c : Option Close) → Itemed s p (on_close c s)
    on (Some c) = pick_all (Itemed s p) _ _ _ tt tt
    on None = tt

line_itemed : (s : List ℕ) (p : ℕ) (l : Option Line) → LineHas s p l → Itemed s p (on_line l s p)
unfolding on_line Itemed LineHas
line_itemed s p (Some (line.Tells t)) w = w
line_itemed s p (Some line.Opens) w = comment_itemed s p
line_itemed s p (Some line.Blank) w = tt
line_itemed s p (Some line.Comment) w = tt
line_itemed s p None w = tt

item_itemed : (s : List ℕ) (p : ℕ) → Itemed s p (item_at Rules s p)
unfolding item_at Itemed
item_itemed s p =
    let n : ℕ = text_end s p in
    let w : LineHas s p (line_at Rules (take n s) p) = rw (take-append-drop n s) at (line_lined (take n s) (drop n s) p) in
    pick_all (Itemed s p) _ _ _ tt (line_itemed s p _ w)

pub rule_strings : (s : List ℕ) (p : ℕ) (a b c d : Text) (n : ℕ) → item_at Rules s p ≡ item.Tells (Rule a b c d) n
    → record { pattern = a; left = b; right = c; expression = d } ≡ strings_from s p
unfolding Itemed Lined
rule_strings s p a b c d n e = subst (Itemed s p) e (item_itemed s p)
