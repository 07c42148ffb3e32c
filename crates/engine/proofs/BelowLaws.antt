-- No refusal of a call but that for room is 9. Assumes nothing.
use Rattle.std.specs.Prelude.{Option, Some, None}
use mathlib.Core.Bool.{Bool}
use mathlib.Core.List.{List, [], ◌∷◌}
use Prim.Native.Nat.{ℕ, zero, suc, ◌<◌}
use native.Mathlib.Omega.{arith}
use Rattle.languages.specs.declared.sets.LanguageSet.{LanguageSet}
use Rattle.prefixes.specs.declared.prefixes.Prefix.{Prefix}
use Rattle.prefixes.specs.declared.prefixes.Prefix.TheVariants.{Leads, Whole}
use Rattle.pack.specs.Packs.{Verdict, accepted, refused}
use Rattle.choices.specs.Texts.{Text}
use Rattle.choices.specs.Apply.{Entry}
use Rattle.refusals.specs.Numbers.{number_of}
use Rattle.refusals.specs.declared.Refusal.{Refusal}
use Rattle.refusals.specs.declared.Refusal.TheVariants.{NotUtf8, OutsideRange}
use Rattle.phoneme_builder.specs.Sets.{Spelling, refusal, texts, united}
use Rattle.rule_index.specs.Matching.{Matcher}
use Rattle.phoneme_builder.specs.Passes.{Ran, too_long, ran, raised, on_ran, final_text, final_from, final_pass, then, main_of, word_of}
use Rattle.engine.specs.Spelling.{Spelt, unspelt, spelt_as, Steps, both, hyphened, and_words, each_word, one_part, by_words, by_prefix, name_by, name_from, spelled_name}
use Rattle.engine.specs.Calls.{spelt_by, word_by_lists, steps_by, steps_of, spelled_by, CallOutcome, refused_by, key, outcome_of, unless, on_pack, letters_then, checked_then, call_of}
use Rattle.engine.specs.declared.call.Settings.{Settings}
use Rattle.engine.specs.declared.call.Start.{Start}
use Rattle.base.proofs.PickLaws.{pick_all}

-- ---- no refusal but that for room is 9

unfoldable WordBelow : Spelling → Type 0
WordBelow (refusal k) = number_of k < 9
WordBelow (texts l f) = Unit {0}

raised_below : (up : Bool) (s : Spelling) → WordBelow s → WordBelow (raised up s)
unfolding WordBelow raised
raised_below up (refusal k) h = h
raised_below up (texts l f) h = tt

united_below : (g : LanguageSet) (xs l : List Entry) (rest : List Entry → Spelling) → ((m : List Entry) → WordBelow (rest m))
    → WordBelow (united g xs l rest)
unfolding WordBelow number_of united
united_below g [] l rest h = h l
united_below g (x ∷ xs) l rest h =
    pick_all WordBelow _ _ _ (united_below g xs _ rest h) (pick_all WordBelow _ _ _ (omega arith) (united_below g xs _ rest h))

ran_below : (g : LanguageSet) (o : Ran) (l : List Entry) (rest : List Entry → Spelling) → ((m : List Entry) → WordBelow (rest m))
    → WordBelow (on_ran g o l rest)
unfolding WordBelow number_of on_ran
ran_below g too_long l rest h = omega arith
ran_below g (ran new flag) l rest h = raised_below flag _ (united_below g new l rest h)

final_below : (limit : ℕ) (names : List ℕ) (rules : Matcher) (old l : List Entry) → WordBelow (final_from limit names rules old l)
unfolding WordBelow final_from final_text
final_below limit names rules [] l = tt
final_below limit names rules (e ∷ old) l = ran_below _ _ l _ (final_below limit names rules old)

then_below : (s : Spelling) (rest : List Entry → Spelling) → WordBelow s → ((m : List Entry) → WordBelow (rest m)) → WordBelow (then s rest)
unfolding WordBelow then
then_below (refusal k) rest h g = h
then_below (texts l flag) rest h g = raised_below flag _ (g l)

main_below : (o : Ran) → WordBelow (main_of o)
unfolding WordBelow number_of main_of
main_below too_long = omega arith
main_below (ran l flag) = tt

unfoldable NameBelow : Spelt → Type 0
NameBelow (unspelt k) = number_of k < 9
NameBelow (spelt_as t f) = Unit {0}

answer_below : (s : Spelling) → WordBelow s → NameBelow (spelt_by s)
unfolding WordBelow NameBelow spelt_by
answer_below (refusal k) h = h
answer_below (texts l f) h = tt

both_below : (x y : Spelt) → NameBelow x → NameBelow y → NameBelow (both x y)
unfolding NameBelow both
both_below (spelt_as t f) (spelt_as u g) h k = tt
both_below (spelt_as t f) (unspelt j) h k = k
both_below (unspelt i) (spelt_as u g) h k = h
both_below (unspelt i) (unspelt j) h k = k

hyphened_below : (x y : Spelt) → NameBelow x → NameBelow y → NameBelow (hyphened x y)
unfolding NameBelow hyphened
hyphened_below (spelt_as t f) (spelt_as u g) h k = tt
hyphened_below (spelt_as t f) (unspelt j) h k = k
hyphened_below (unspelt i) y h k = h

module _ (afresh : Text → Spelt) (low : (t : Text) → NameBelow (afresh t)) where
  and_below : (x : Spelt) (ws : List Text) → NameBelow x → NameBelow (and_words afresh x ws)
  unfolding and_words
  and_below x [] h = h
  and_below x (w ∷ ws) h = and_below (hyphened x (afresh w)) ws (hyphened_below x _ h (low w))

  each_below : (ws : List Text) → NameBelow (each_word afresh ws)
  unfolding NameBelow each_word
  each_below [] = tt
  each_below (w ∷ ws) = and_below _ ws (low w)

  prefix_below : (p : Prefix) (s : Text) (whole : Spelt) → NameBelow whole → NameBelow (by_prefix p afresh s whole)
  unfolding by_prefix
  prefix_below (Leads size rest) s whole h = both_below _ _ (low _) (low _)
  prefix_below Whole s whole h = h

name_below : (n : ℕ) (c : Steps) → ((g : LanguageSet) (w : Text) → NameBelow (c.word g w)) → (g : LanguageSet) (s : Text)
    → NameBelow (name_from n c g s)
unfolding NameBelow name_from name_by by_words one_part
name_below zero c low g s = tt
name_below (suc n) c low g s =
    let again : (t : Text) → NameBelow (name_from n c (c.guess t) t) = λ t. name_below n c low (c.guess t) t in
    prefix_below _ again _ s _ (pick_all NameBelow _ _ _ (pick_all NameBelow _ _ _ (low g _) (low g _)) (each_below _ again _))

unfoldable pub Below : CallOutcome → Type 0
Below (refused_by k place) = number_of k < 9
Below (key t f) = Unit {0}

outcome_below : (x : Spelt) → NameBelow x → Below (outcome_of x)
unfolding NameBelow Below outcome_of
outcome_below (unspelt k) h = h
outcome_below (spelt_as t f) h = h

unless_below : (why : Refusal) (at : Option ℕ) (rest : CallOutcome) → number_of why < 9 → Below rest → Below (unless why at rest)
unfolding Below unless
unless_below why (Some place) rest h k = h
unless_below why None rest h k = k

pack_below : (c : Settings) (start : Start) (s name : List ℕ) (v : Verdict) → Below (on_pack c start s name v)
unfolding Below number_of on_pack spelled_by spelled_name steps_of steps_by word_by_lists word_of final_pass
pack_below c start s name (refused place) = omega arith
pack_below c start s name (accepted p) =
    pick_all Below _ _ _ (outcome_below _ (name_below _ _ (λ g w.
    answer_below _ (then_below _ _ (main_below _) (λ l. then_below _ _ (final_below _ _ _ l []) (λ m. final_below _ _ _ m [])))) _ _)) (omega arith)

pub call_below : (c : Settings) (start : Start) (s name : List ℕ) → Below (call_of c start s name)
unfolding Below number_of call_of checked_then letters_then
call_below c start s name =
    pick_all Below _ _ _ (pick_all Below _ _ _ (omega arith) (unless_below NotUtf8 _ _ (omega arith)
    (unless_below OutsideRange _ _ (omega arith) (pack_below c start s name _)))) (omega arith)
