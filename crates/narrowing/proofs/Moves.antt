-- Rules that are moved: guessing rules may stand in any order, and of the rules of a list only which one matches first makes a difference.
-- Assumes nothing.
use mathlib.Core.Path.{◌≡◌, refl, sym, ap, ap₂, ◌∙◌, subst, fun_ext}
use mathlib.Core.Bool.{Bool, true, false}
use mathlib.Core.Logic.{◌↔◌}
use mathlib.Core.List.Memᴰ
use mathlib.Core.List.{List, [], ◌∷◌, ◌++◌, map, foldl, Memᴰ}
use Prim.Native.Nat.{ℕ, ◌+◌, ◌-◌, ◌*◌, ◌^◌}
use lib.Bits.{bit_and}
use lib.Dec.{eqb}
use native.Mathlib.Omega.{arith}
use lib.ListN.{length, take, drop}
use Rattle.base.specs.Pick.{pick}
use Rattle.languages.specs.Sets.{narrowed, without, single_of}
use Rattle.languages.specs.Names.{name_place}
use Rattle.languages.specs.declared.sets.LanguageSet.{LanguageSet}
use Rattle.languages.specs.declared.sets.LanguageSet.TheVariants.{Any, SomeLanguages}
use Rattle.lang.specs.Patterns.{matches_of}
use Rattle.choices.specs.Texts.{Text}
use Rattle.pack.specs.Packs.{Guess, Pack, pack_of, accepted, any, strings_length}
use Rattle.lower_case.specs.Lower.{lower_text}
use Rattle.refusals.specs.declared.Refusal.TheVariants.{NoSuchLanguage}
use Rattle.pack.specs.Guessing.{narrowed_by, narrowed_by_all, left_over, all_listed, guessed}
use Rattle.pack.proofs.Laws.{names_held}
use Rattle.pack.proofs.SectionLaws.{written}
use Rattle.rule.specs.Matching.{rule_matches}
use Rattle.rule_lines.specs.Rules.{Rule}
use Rattle.rule_index.specs.Matching.{by, Matcher, first_match}
use Rattle.phoneme_builder.specs.Passes.{word_of}
use Rattle.engine.specs.Spelling.{Spelt, Steps}
use Rattle.engine.specs.Calls.{language_by, language_of, list_numbered, spelt_by, word_by_lists, steps_by, steps_of, type_of, have_languages}
use Rattle.engine.specs.Calls.{CallOutcome, refused_by, outcome_of, spelled_by, on_pack, checked_then, call_of, SpellIs}
use Rattle.engine.specs.declared.call.Settings.{Settings}
use Rattle.engine.specs.declared.call.Start.{Start}
use Rattle.engine.specs.declared.spelling.Spelled.{Spelled}
use Rattle.engine.specs.Lines.{LinesIs}
use Rattle.engine.specs.declared.lines.Lines.{Lines}
use Rattle.engine.proofs.AnswerLaws.{spell_one}
use Rattle.engine.proofs.LinesLaws.{lines_one}
use Rattle.narrowing.specs.Moves.{SameFirstMatches}
use Rattle.narrowing.proofs.Sets.{narrowing_orderless}

-- ---- guessing is a sequence of narrowings: by a rule's languages, by all others where it takes languages away, by Any where it does not match

narrowed_for : Text → Guess → LanguageSet
narrowed_for name g = pick (matches_of g.pattern name) (SomeLanguages (pick (eqb g.accept 0) ((2 ^ 32 - 1) - g.mask) g.mask)) Any

by_one : (t u : Bool) (m k : ℕ)
    → SomeLanguages (pick t (pick u (without m k) (bit_and m k)) m) ≡
    narrowed (SomeLanguages m) (pick t (SomeLanguages (pick u ((2 ^ 32 - 1) - k) k)) Any)
unfolding pick without narrowed
by_one true true m k = refl
by_one true false m k = refl
by_one false u m k = refl

by_all : (name : Text) (gs : List Guess) (m : ℕ)
    → SomeLanguages (narrowed_by_all name gs m) ≡ foldl narrowed (SomeLanguages m) (map (narrowed_for name) gs)
unfolding narrowed_by_all narrowed_by narrowed_for
by_all name [] m = refl
by_all name (g ∷ gs) m =
    by_all name gs (narrowed_by name g m)
    ∙ ap (λ (s : LanguageSet). foldl narrowed s (map (narrowed_for name) gs)) (by_one (matches_of g.pattern name) (eqb g.accept 0) m g.mask)

map_has : {A B : Type 0} (f : A → B) (xs ys : List A) → ((a : A) → Memᴰ a xs → Memᴰ a ys) → (b : B)
    → Memᴰ b (map f xs) → Memᴰ b (map f ys)
map_has f xs ys has b m = let (a, n, e) = Memᴰ.of_map f xs m in Memᴰ.cast (sym e) (Memᴰ.map f (has a n))

-- so guessing rules may stand in any order
pub moved_guessing_rules_same_guess : (gs hs : List Guess) → ((g : Guess) → Memᴰ g gs ↔ Memᴰ g hs)
    → (n : ℕ) (name : Text) → guessed n gs name ≡ guessed n hs name
unfolding guessed
moved_guessing_rules_same_guess gs hs same n name =
    let f = narrowed_for name in
    let one = narrowing_orderless.same_sets (SomeLanguages (all_listed n)) (map f gs) (map f hs)
    (λ x. (map_has f gs hs (λ g. (same g).0) x, map_has f hs gs (λ g. (same g).1) x)) in
    let e : SomeLanguages (narrowed_by_all name gs (all_listed n)) ≡ SomeLanguages (narrowed_by_all name hs (all_listed n)) =
    by_all name gs _ ∙ one ∙ sym (by_all name hs _) in
    let m : narrowed_by_all name gs (all_listed n) ≡ narrowed_by_all name hs (all_listed n) = cc in
    ap left_over m

-- ---- what a call takes from a pack: its names, its guesses, and which rule matches first

bytes_held : (s : List ℕ) (p : Pack) → pack_of s ≡ accepted p → take (strings_length p.names) (drop 1 s) ≡ written p.names
bytes_held s p e =
    let size : strings_length p.names ≡ 1 + strings_length p.names - 1 = omega arith in
    ap (λ (n : ℕ). take n (drop 1 s)) size ∙ names_held s p (1 + strings_length p.names) e refl

first_matches : Pack → ℕ → Matcher
first_matches p k = first_match (list_numbered p k)

word_on : ℕ → ℕ → LanguageSet → Text → List ℕ → List (List ℕ) → (ℕ → Matcher) → Spelt
word_on rules limit g w bytes names first =
    spelt_by (word_of limit bytes (first (3 * language_by (single_of g) (name_place any names))) (first (3 * length names + rules))
    (first (3 * language_by (single_of g) (name_place any names) + 1 + rules)) g w)

module _ {s t : List ℕ} (same : SameFirstMatches s t) where
  abbrev p : Pack
  p = same.one

  abbrev q : Pack
  q = same.other

  same_word : (rules limit : ℕ) (g : LanguageSet) (w : Text)
      → word_by_lists s p rules limit (language_of p g) g w ≡ word_by_lists t q rules limit (language_of q g) g w
  unfolding word_by_lists language_of word_on first_matches
  same_word rules limit g w =
      ap (λ (b : List ℕ). word_on rules limit g w b p.names (first_matches p))
      (bytes_held s p same.reads_one ∙ ap written same.languages ∙ sym (bytes_held t q same.reads_other))
      ∙ ap₂ (word_on rules limit g w _) same.languages (fun_ext (λ k. fun_ext (λ x. fun_ext (λ place. same.matching k x place))))

  same_guess : (name : Text) → guessed (length p.names) p.guesses name ≡ guessed (length q.names) q.guesses name
  same_guess name =
      ap (λ (ns : List (List ℕ)). guessed (length ns) p.guesses name) same.languages
      ∙ moved_guessing_rules_same_guess _ _ same.guessing _ name

  same_steps : (c : Settings) → steps_of s p c ≡ steps_of t q c
  unfolding steps_of steps_by
  same_steps c =
      ap₂ (λ (g : Text → LanguageSet) (w : LanguageSet → Text → Spelt).
      record { guess = g; word = w; kind = type_of c.name_type; concat = eqb c.concat 1 })
      (fun_ext same_guess) (fun_ext (λ g. fun_ext (λ w. same_word c.rule_type c.limit g w)))

  on_packs : (c : Settings) (start : Start) (name : Text) → on_pack c start s name (accepted p) ≡ on_pack c start t name (accepted q)
  unfolding on_pack
  on_packs c start name =
      ap₂ (λ (ns : List (List ℕ)) (x : Steps).
      pick (have_languages (length ns) start) (outcome_of (spelled_by x start (lower_text name))) (refused_by NoSuchLanguage 0))
      same.languages (same_steps c)

  -- a call comes to the same, whatever its settings, start and name are
  pub same_first_matches_same_call : (c : Settings) (start : Start) (name : Text) → call_of c start s name ≡ call_of c start t name
  unfolding call_of
  same_first_matches_same_call c start name =
      ap (checked_then c start name)
      (ap (on_pack c start s name) same.reads_one ∙ on_packs c start name ∙ sym (ap (on_pack c start t name) same.reads_other))

-- and so does what is promised of it, one answer and one content of the buffer: of a name
pub same_first_matches_same_answer : {s t : List ℕ} → SameFirstMatches s t → (c : Settings) (start : Start) (name : Text)
    {out o u : List ℕ} {r v : Spelled} → SpellIs (call_of c start s name) out r o → SpellIs (call_of c start t name) out v u → (r ≡ v) × (o ≡ u)
same_first_matches_same_answer same c start name {out} {o} {u} {r} {v} a b =
    spell_one a (subst (λ (x : CallOutcome). SpellIs x out v u) (sym (same_first_matches_same_call same c start name)) b)

-- and of a block of names
pub same_first_matches_same_block : {s t : List ℕ} → SameFirstMatches s t → (c : Settings) (start : Start)
    {block out o u : List ℕ} {r v : Lines} → LinesIs (call_of c start s) block out r o → LinesIs (call_of c start t) block out v u → (r ≡ v) × (o ≡ u)
same_first_matches_same_block same c start {block} {out} {o} {u} {r} {v} a b =
    lines_one a (subst (λ (f : Text → CallOutcome). LinesIs f block out v u) (sym (fun_ext (same_first_matches_same_call same c start))) b)

-- ---- which move is sure to be harmless

swapped : {A : Type 0} (t u : Bool) (x y z : A) → (t ≡ true → u ≡ true → ⊥) → pick t x (pick u y z) ≡ pick u y (pick t x z)
unfolding pick
swapped true true x y z apart = absurd (apart refl refl)
swapped true false x y z apart = refl
swapped false u x y z apart = refl

-- a rule that is moved past one which never matches where it does leaves every first match as it was
pub apart_rules_may_swap : (front : List Rule) (a b : Rule) (back : List Rule) (text : Text) (place : ℕ)
    → (rule_matches a.pattern a.left a.right text place ≡ true → rule_matches b.pattern b.left b.right text place ≡ true → ⊥)
    → first_match (front ++ a ∷ b ∷ back) text place ≡ first_match (front ++ b ∷ a ∷ back) text place
unfolding first_match
apart_rules_may_swap [] a b back text place apart = swapped _ _ _ _ _ apart
apart_rules_may_swap (r ∷ front) a b back text place apart =
    ap (pick (rule_matches r.pattern r.left r.right text place) (by r)) (apart_rules_may_swap front a b back text place apart)
