-- A law for each way that the functions of `lists` can go. Assumes nothing.
use Rattle.strings.specs.declared.Span.{Span}
use mathlib.Core.Path.{◌≡◌, refl, ap, ◌∙◌}
use mathlib.Core.List.{List, [], ◌∷◌, ◌++◌, append-nil}
use Prim.Native.Nat.{ℕ, suc, ◌-◌, ◌≤◌}
use native.Mathlib.Omega.{arith}
use borrow.Author.Rules.{rules}
use lib.ListN.{length, get_or, take, drop, length-take, length-append}
use mir.Syntax.{w8}
use mir.Val.{Fits}
use Rattle.writing.specs.InnerContracts.{Put}
use Rattle.base.proofs.Arms.{clash}
use Rattle.writing.proofs.Laws.{put_then, put_long, put_fits}
use Rattle.strings.specs.Reading.{strings, strings_of}
use Rattle.strings.proofs.Laws.{string_whole, strings_all, none_left, one_left, part_order, part_fits, walk_less}
use Rattle.prefixes.specs.declared.prefixes.NameType.{NameType}
use Rattle.prefixes.specs.declared.prefixes.NameType.TheVariants.{Ashkenazi, Generic, Sephardic}
use Rattle.rule_lines.specs.Rules.{Rule}
use Rattle.pack_bytes.specs.Bytes.{list_bytes}
use Rattle.pack_bytes.proofs.Laws.{bytes_append}
use Rattle.bundles.specs.Bundles.{File}
use Rattle.rule_lists.specs.Outcomes.{Loading, fine, not_loaded, and_load}
use Rattle.rule_lists.specs.Lists.{list_named, lists_of, type_prefix, common_part, two_of, three_of, list_files}
use Rattle.rule_lists.specs.WritingContracts.{list_part, list_name}
use Rattle.rule_lists.specs.declared.lists.ListKind.{ListKind}
use Rattle.rule_lists.specs.declared.lists.ListKind.TheVariants as list
use Rattle.rule_lists.specs.declared.lists.ListName.{ListName}
use Rattle.std.specs.Prelude.{Result, Ok, Err, Option, Some, None}
use Rattle.rule_lists.specs.declared.refused.Refused.{Refused}
use Rattle.rule_lists.specs.declared.list_writing.Written.TheVariants as wrote
use Rattle.held.specs.Met.{bytes_of_all}
use Rattle.strings.specs.InnerContracts.{string_at}
use Rattle.rule_lists.specs.InnerContracts.{refusal_at, WritesTo, WrittenIs}

-- ---- what an answer tells

told_done : {A : Type 0} (f : A → List ℕ) (x : Loading A) (o o' : List ℕ) (at p : ℕ) (r : Result ℕ Refused) → WritesTo f x o o' at r → r ≡ Ok p → (a : A) × (x ≡ fine a) × Put o o' at p (f a)
unfolding WritesTo
told_done f (fine a) o o' at p r w q =
    let e = w.1 in
    let same : w.0 ≡ p = cc in
    (a, refl, rw same at w.2)
told_done f (not_loaded c l k) o o' at p r w q = clash (cc)

told_refused : {A : Type 0} (f : A → List ℕ) (x : Loading A) (o o' : List ℕ) (at : ℕ) (c : Refused) (r : Result ℕ Refused) → WritesTo f x o o' at r → r ≡ Err c → x ≡ not_loaded c.why c.line c.file
unfolding WritesTo
told_refused f (fine a) o o' at c r w q = let e = w.1 in clash (cc)
told_refused f (not_loaded d m j) o o' at c r w q =
    let is : refusal_at d m j ≡ c = cc in
    ap (λ (e : Refused). not_loaded e.why e.line e.file) is

-- and in the words of the public function
module _ {A : Type 0} (f : A → List ℕ) (x : Loading A) (o o' : List ℕ) (at : ℕ) (r : Result ℕ Refused) (w : WritesTo f x o o' at r) where
  pub public_done : (p : ℕ) → r ≡ Ok p → WrittenIs f x o o' at (wrote.Done p)
  unfolding WrittenIs
  public_done p q = let d = told_done f x o o' at p r w q in rw d.1 (p, refl, d.2)

  pub public_refused : (c : Refused) → r ≡ Err c → WrittenIs f x o o' at (wrote.Refused c.why c.line c.file)
  unfolding WrittenIs
  public_refused c q = rw (told_refused f x o o' at c r w q) refl

-- what is no whole string is cut
pub cut_else : (r : Option Span) → ((part : Span) → r ≡ Some part → ⊥) → r ≡ None
cut_else (Some w) h = absurd (h w refl)
cut_else None h = refl

-- ---- one part, and then another

module _ {A B C : Type 0} (f : A → List ℕ) (g : B → List ℕ) (h : C → List ℕ) (k : A → B → C) (e : (a : A) (b : B) → h (k a b) ≡ f a ++ g b) where
  then_done : (a : A) (y : Loading B) (o o₁ o₂ : List ℕ) (at p : ℕ) (s : Result ℕ Refused) → Put o o₁ at p (f a) → WritesTo g y o₁ o₂ p s → WritesTo h (and_load y (λ b. fine (k a b))) o o₂ at s
  unfolding WritesTo and_load
  then_done a (fine b) o o₁ o₂ at p s v w = (w.0, w.1, rw (e a b) (put_then v w.2))
  then_done a (not_loaded c l i) o o₁ o₂ at p s v w = w

  told_then : (x : Loading A) (y : Loading B) (o o₁ o₂ : List ℕ) (at p : ℕ) (r s : Result ℕ Refused) → WritesTo f x o o₁ at r → r ≡ Ok p → WritesTo g y o₁ o₂ p s
      → WritesTo h (and_load x (λ a. and_load y (λ b. fine (k a b)))) o o₂ at s
  unfolding and_load
  told_then x y o o₁ o₂ at p r s v q w =
      let d = told_done f x o o₁ at p r v q in
      rw d.1 (then_done d.0 y o o₁ o₂ at p s d.2 w)

told_stop : {A B : Type 0} (f : A → List ℕ) (h : B → List ℕ) (x : Loading A) (m : A → Loading B) (o o₁ : List ℕ) (at : ℕ) (r : Result ℕ Refused) (c : Refused) → WritesTo f x o o₁ at r → r ≡ Err c → WritesTo h (and_load x m) o o₁ at (Err c)
unfolding WritesTo and_load
told_stop f h x m o o₁ at r c v q = rw (told_refused f x o o₁ at c r v q) refl

-- ---- a name of three parts

module _ (o o' : List ℕ) (at r : ℕ) (x : List ℕ) (v : Put o o' at r x) where
  pub put_as_type : (k k' : NameType) → k ≡ k' → x ≡ type_prefix k' → Put o o' at r (type_prefix k)
  put_as_type k k' p e = rw (p, ← e) v

  pub put_as_list : (l l' : ListKind) → l ≡ l' → x ≡ list_part l' → Put o o' at r (list_part l)
  put_as_list l l' p e = rw (p, ← e) v

type_three : (k : NameType) → length (type_prefix k) ≡ 3
unfolding type_prefix
type_three Ashkenazi = refl
type_three Generic = refl
type_three Sephardic = refl

list_eight : (l : ListKind) → length (list_part l) ≤ 8
unfolding list_part
list_eight list.Rules = omega arith
list_eight list.Approx = omega arith
list_eight list.Exact = omega arith

module _ (name : ListName) (lang w w₁ w₂ w₃ : List ℕ) (p q n : ℕ) (size : length w ≡ 320) (h : length lang ≤ 255)
    (x : Put w w₁ 0 p (type_prefix name.kind)) (y : Put w₁ w₂ p q (list_part name.list)) (z : Put w₂ w₃ q n lang) where
  long : length (list_name name lang) ≤ 320
  unfolding list_name
  long = omega (arith, length-append (type_prefix name.kind) (list_part name.list ++ lang), length-append (list_part name.list) lang, type_three name.kind, list_eight name.list)

  whole : Put w w₃ 0 n (list_name name lang)
  unfolding list_name
  whole = put_then x (put_then y z)

  pub name_fits : n ≤ length w₃
  name_fits = omega (arith, (put_fits whole (omega (arith, long))).0, long, put_long w w₃ 0 n _ whole)

  pub name_told_lem : (names : List ℕ) (fs : List File) (o o' : List ℕ) (at : ℕ) (r : Result ℕ Refused) → WritesTo list_bytes (list_named names fs (take (n - 0) w₃)) o o' at r → WritesTo list_bytes (list_named names fs (list_name name lang)) o o' at r
  name_told_lem names fs o o' at r v = let all : n - 0 ≡ n = omega arith in rw (put_fits whole (omega (arith, long))).1 at (rw all at v)

module _ (names : List ℕ) (fs : List File) where
  lists_append : (ws us : List (List ℕ)) → lists_of names fs (ws ++ us) ≡ and_load (lists_of names fs ws) (λ a. and_load (lists_of names fs us) (λ b. fine (a ++ b)))
  unfolding lists_of and_load
  lists_append [] us = self (lists_of names fs us)
    where
      self : (x : Loading (List (List Rule))) → x ≡ and_load x (λ b. fine b)
      self (fine b) = refl
      self (not_loaded c l f) = refl
  lists_append (w ∷ ws) us = ap (λ (x : Loading (List (List Rule))). and_load (list_named names fs w) (λ rs. and_load x (λ rest. fine (rs ∷ rest)))) (lists_append ws us) ∙ turned (list_named names fs w) (lists_of names fs ws) (lists_of names fs us)
    where
      turned : (x : Loading (List Rule)) (y z : Loading (List (List Rule)))
          → and_load x (λ rs. and_load (and_load y (λ a. and_load z (λ b. fine (a ++ b)))) (λ rest. fine (rs ∷ rest))) ≡ and_load (and_load x (λ rs. and_load y (λ rest. fine (rs ∷ rest)))) (λ a. and_load z (λ b. fine (a ++ b)))
      turned (fine rs) (fine a) (fine b) = refl
      turned (fine rs) (fine a) (not_loaded c l f) = refl
      turned (fine rs) (not_loaded c l f) z = refl
      turned (not_loaded c l f) y z = refl

  -- as many lists as files
  pub lists_length : (ws : List (List ℕ)) (ls : List (List Rule)) → lists_of names fs ws ≡ fine ls → length ls ≡ length ws
  unfolding lists_of and_load
  lists_length [] [] e = refl
  lists_length [] (rs ∷ ls) e = clash (cc)
  lists_length (w ∷ ws) ls e = by (list_named names fs w) (lists_of names fs ws) e (lists_length ws)
    where
      by : (x : Loading (List Rule)) (y : Loading (List (List Rule))) → and_load x (λ rs. and_load y (λ rest. fine (rs ∷ rest))) ≡ fine ls
          → ((us : List (List Rule)) → y ≡ fine us → length us ≡ length ws) → length ls ≡ suc (length ws)
      by (fine rs) (fine us) e h = let same : ls ≡ rs ∷ us = cc in ap length same ∙ ap suc (h us refl)
      by (fine rs) (not_loaded c l f) e h = clash (cc)
      by (not_loaded c l f) y e h = clash (cc)

  abbrev Lists : List (List ℕ) → List ℕ → List ℕ → ℕ → Result ℕ Refused → Type 0
  Lists ws o o' at r = WritesTo (bytes_of_all list_bytes) (lists_of names fs ws) o o' at r

  abbrev One : List ℕ → List ℕ → List ℕ → ℕ → Result ℕ Refused → Type 0
  One w o o' at r = WritesTo list_bytes (list_named names fs w) o o' at r

  pub list_then : (w : List ℕ) (ws : List (List ℕ)) (o o₁ o₂ : List ℕ) (at p : ℕ) (r s : Result ℕ Refused) → One w o o₁ at r → r ≡ Ok p → Lists ws o₁ o₂ p s → Lists (w ∷ ws) o o₂ at s
  unfolding lists_of bytes_of_all
  list_then w ws o o₁ o₂ at p r s v q u = told_then list_bytes (bytes_of_all list_bytes) (bytes_of_all list_bytes) ◌∷◌ (λ rs ls. refl) (list_named names fs w) (lists_of names fs ws) o o₁ o₂ at p r s v q u

  pub list_last : (w : List ℕ) (o o' : List ℕ) (at : ℕ) (r : Result ℕ Refused) → One w o o' at r → Lists (w ∷ []) o o' at r
  unfolding lists_of and_load WritesTo bytes_of_all
  list_last w o o' at r v = by (list_named names fs w) v
    where
      by : (x : Loading (List Rule)) → WritesTo list_bytes x o o' at r → WritesTo (bytes_of_all list_bytes) (and_load x (λ rs. fine (rs ∷ []))) o o' at r
      by (fine rs) v = (v.0, v.1, rw (append-nil (list_bytes rs)) v.2)
      by (not_loaded c l f) v = v

  pub list_stop : (w : List ℕ) (ws : List (List ℕ)) (o o₁ : List ℕ) (at : ℕ) (r : Result ℕ Refused) (c : Refused) → One w o o₁ at r → r ≡ Err c → Lists (w ∷ ws) o o₁ at (Err c)
  unfolding lists_of
  list_stop w ws o o₁ at r c v q = told_stop list_bytes (bytes_of_all list_bytes) (list_named names fs w) _ o o₁ at r c v q

  lists_then : (ws us : List (List ℕ)) (o o₁ o₂ : List ℕ) (at p : ℕ) (r s : Result ℕ Refused) → Lists ws o o₁ at r → r ≡ Ok p → Lists us o₁ o₂ p s → Lists (ws ++ us) o o₂ at s
  lists_then ws us o o₁ o₂ at p r s v q u = rw (lists_append ws us)
      (told_then (bytes_of_all list_bytes) (bytes_of_all list_bytes) (bytes_of_all list_bytes) ◌++◌ (bytes_append list_bytes) (lists_of names fs ws) (lists_of names fs us) o o₁ o₂ at p r s v q u)

  lists_stop : (ws us : List (List ℕ)) (o o₁ : List ℕ) (at : ℕ) (r : Result ℕ Refused) (c : Refused) → Lists ws o o₁ at r → r ≡ Err c → Lists (ws ++ us) o o₁ at (Err c)
  lists_stop ws us o o₁ at r c v q = rw (lists_append ws us) (told_stop (bytes_of_all list_bytes) (bytes_of_all list_bytes) (lists_of names fs ws) _ o o₁ at r c v q)

  -- ---- string by string: what is left of the names, from a place on, is written behind what was

  pub record Listing (pre o₀ : List ℕ) (at₀ from : ℕ) (o : List ℕ) (at : ℕ) : Type 0 where
    pub fuel : ℕ
    pub enough : length names - from ≤ fuel
    pub is : (o' : List ℕ) (r : Result ℕ Refused) → Lists (list_files pre (strings fuel (drop from names))) o o' at r → Lists (list_files pre (strings_of names)) o₀ o' at₀ r

  pub listing_start : (pre o : List ℕ) (at : ℕ) → Listing pre o at 0 o at
  listing_start pre o at = record { fuel = length names; enough = omega arith; is = λ o' r v. rw (strings_all names) v }

  module _ {pre o₀ : List ℕ} {at₀ from : ℕ} {o : List ℕ} {at : ℕ} (w : Listing pre o₀ at₀ from o at) (r : Option Span) (p : r ≡ string_at names from) where
    module _ (part : Span) (q : r ≡ Some part) (o₁ : List ℕ) (s : Result ℕ Refused) (v : Lists (three_of pre (take (part.end - part.start) (drop part.start names))) o o₁ at s) where
      files_one : (f : ℕ) → w.fuel ≡ suc f → list_files pre (strings w.fuel (drop from names)) ≡ three_of pre (take (part.end - part.start) (drop part.start names)) ++ list_files pre (strings f (drop part.end names))
      unfolding list_files
      files_one f m = ap (λ (k : ℕ). list_files pre (strings k (drop from names))) m ∙ ap (list_files pre) (one_left names from part r p q f)

      some_fuel : w.fuel ≡ suc (w.fuel - 1)
      some_fuel = omega (arith, walk_less names from part r p q, w.enough)

      pub listing_next : (z : ℕ) → s ≡ Ok z → Listing pre o₀ at₀ part.end o₁ z
      listing_next z d = record {
        fuel = w.fuel - 1;
        enough = omega (arith, walk_less names from part r p q, w.enough);
        is = λ o' t u. w.is o' t (rw (files_one _ some_fuel) (lists_then _ _ o o₁ o' at z s t v d u));
      }

      pub listing_stop : (c : Refused) → s ≡ Err c → Lists (list_files pre (strings_of names)) o₀ o₁ at₀ (Err c)
      listing_stop c d = w.is o₁ _ (rw (files_one _ some_fuel) (lists_stop _ _ o o₁ at s c v d))

    pub listing_done : r ≡ None → (o₁ : List ℕ) (s : Result ℕ Refused) → Lists (two_of pre common_part) o o₁ at s → Lists (list_files pre (strings_of names)) o₀ o₁ at₀ s
    unfolding list_files
    listing_done q o₁ s v = w.is o₁ s (rw (none_left names from r p q w.fuel) v)

-- a string's length is a byte
pub string_short : (names : List ℕ) (from : ℕ) (part : Span) (r : Option Span) → r ≡ string_at names from → r ≡ Some part → ((i : ℕ) → Fits w8 (get_or names i 0)) → length (take (part.end - part.start) (drop part.start names)) ≤ 255
string_short names from part r p q b = omega (arith, (b from).fits, string_whole names from part r p q, length-take (part.end - part.start) (drop part.start names))

pub ruleset name_laws = (put_as_type, put_as_list, name_fits, name_told_lem, rules)

pub ruleset list_laws = (list_then, list_last, list_stop, rules)

pub ruleset public_laws = (public_done, public_refused, rules)

pub ruleset all_laws = (part_order, part_fits, walk_less, string_short, listing_start, listing_next, listing_stop, listing_done, rules)
