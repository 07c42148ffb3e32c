-- Demand 3 from a pack's bytes and a word, by computation: one where both conditions hold, and one for each that fails. Assumes nothing.
use Prim.Native.Nat.{ℕ}
use mathlib.Core.Path.{◌≡◌, refl}
use mathlib.Core.Bool.{Bool, true, false}
use mathlib.Core.List.{List, [], ◌∷◌, ◌++◌}
use lib.ListN.{get_or}
use Rattle.base.specs.Pick.{pick, and}
use Rattle.letters.specs.Utf8.{within, decode_bytes, decode_at}
use Rattle.letters.specs.Reading.{symbols_on, symbols_from, symbols_of}
use Rattle.letters.specs.Order.{order_of, same_text, is_less, increasing}
use Rattle.texts.specs.Parts.{tail, front, first_is, last_is, place_of, has, prefix_of, suffix_of, without_caret, without_dollar}
use Rattle.languages.specs.Sets.{narrowed, is_empty}
use Rattle.languages.specs.Names.{is_letter, all_letters, language_name, name_place, bit_at, language_bit}
use Rattle.strings.specs.Reading.{strings, strings_of, and_read, read_byte, read_more, read_number, read_text, read_many, place_in, is_nil}
use Rattle.languages.specs.declared.sets.LanguageSet.{LanguageSet}
use Rattle.languages.specs.declared.sets.LanguageSet.TheVariants.{Any, SomeLanguages}
use Rattle.regex_optim.specs.Contexts.{literal_form, form_in, form_of, left_form, right_form, kind_of, takes_none, empty_box, fits}
use Rattle.phonemes.specs.Expressions.{on_first, cut_at, inside, extra, pieces_in, all_of, formed_piece, formed, box_of, with_bits, names_mask, piece_mask, is_listed, text_of, mask_set, set_of, checked_of}
use Rattle.rule.specs.Matching.{plain_code, plain_in, rule_text, code_in, first_code, rule_matches}
use Rattle.pack.specs.Packs.{Pack, read_names, read_guesses, read_rule, read_list, all, holds, names_good, guesses_good, ordered_by_code, list_good, accepted, section, names_in, list_count, list_sections, end_section, pack_of}
use Rattle.rule_lines.specs.Rules.{Rule, rule, length_fault, context_fault, box_fault, contexts_fault, expression_fault, fault_else, rule_fault, rule_texts, faultless, rule_good}
use Rattle.choices.specs.Texts.{Text, by_order}
use Rattle.choices.specs.Apply.{Alternative, Places, Entry, insert, under, candidates, enter, apply, start}
use Rattle.choices.specs.Choices.{here, there, Choice, end, choose, spelt, leaves, times}
use Rattle.base.proofs.Arms.{clash}
use Rattle.choices.proofs.Tests.{same_set, fits as agrees, agreeing, all_agree, alike_by_test}
use Rattle.rule_index.specs.Matching.{first_match}
use Rattle.phoneme_builder.specs.Passes.{Turn, offered, step_length, turn_on, turns_from, turns_of, Ran, ran, flagged, applied, after_letter, unmatched, run}
use Rattle.demands.specs.Demands.{rule_places, StayedFewer, AlikeAgree, Demand3OfWord}
use Rattle.demands.proofs.Demand3.{demand_3_of_a_word}

-- `unfolding computing` opens all that its line names
computing : Unit {0}
unfolding
    pick and within decode_bytes decode_at symbols_on symbols_from symbols_of order_of same_text tail front first_is last_is place_of has prefix_of suffix_of
    narrowed is_empty is_letter all_letters language_name strings strings_of name_place bit_at language_bit
    literal_form without_caret without_dollar form_in form_of left_form right_form kind_of takes_none empty_box fits
    on_first cut_at inside extra pieces_in all_of formed_piece formed box_of with_bits names_mask piece_mask is_listed text_of mask_set set_of checked_of
    plain_code plain_in rule_text code_in first_code rule_matches and_read read_byte read_more read_number read_text read_many
    read_names read_guesses read_rule read_list all is_less increasing holds names_good guesses_good length_fault context_fault box_fault contexts_fault expression_fault fault_else rule_fault rule_texts faultless rule_good ordered_by_code list_good
    section place_in names_in list_count list_sections is_nil end_section pack_of
    by_order insert under candidates enter apply same_set agrees agreeing all_agree
    offered first_match step_length turn_on turns_from turns_of flagged applied after_letter unmatched run rule_places
computing = tt

-- ---- the pack: languages any, de and fr (bits 0 to 2); the main rules of `any` are list 0, ten lists are empty

abbrev names : List ℕ
names = 3 ∷ 97 ∷ 110 ∷ 121 ∷ 2 ∷ 100 ∷ 101 ∷ 2 ∷ 102 ∷ 114 ∷ []

-- `(b[fr]|a)` for a, `(a|b[de])` for b, `(a[fr]|a[de])` for c, `b[de]` for d, `(a|b)` for e
abbrev bytes : List ℕ
bytes =
    3 ∷ names ++ (0 ∷ 0 ∷ 11 ∷ 0 ∷ 5
    ∷ 1 ∷ 97 ∷ 0 ∷ 0 ∷ 9 ∷ 40 ∷ 98 ∷ 91 ∷ 102 ∷ 114 ∷ 93 ∷ 124 ∷ 97 ∷ 41
    ∷ 1 ∷ 98 ∷ 0 ∷ 0 ∷ 9 ∷ 40 ∷ 97 ∷ 124 ∷ 98 ∷ 91 ∷ 100 ∷ 101 ∷ 93 ∷ 41
    ∷ 1 ∷ 99 ∷ 0 ∷ 0 ∷ 13 ∷ 40 ∷ 97 ∷ 91 ∷ 102 ∷ 114 ∷ 93 ∷ 124 ∷ 97 ∷ 91 ∷ 100 ∷ 101 ∷ 93 ∷ 41
    ∷ 1 ∷ 100 ∷ 0 ∷ 0 ∷ 5 ∷ 98 ∷ 91 ∷ 100 ∷ 101 ∷ 93
    ∷ 1 ∷ 101 ∷ 0 ∷ 0 ∷ 5 ∷ 40 ∷ 97 ∷ 124 ∷ 98 ∷ 41
    ∷ 0 ∷ 0 ∷ 0 ∷ 0 ∷ 0 ∷ 0 ∷ 0 ∷ 0 ∷ 0 ∷ 0 ∷ 0 ∷ 0 ∷ 0 ∷ 0 ∷ 0 ∷ 0 ∷ 0 ∷ 0 ∷ 0 ∷ 0 ∷ [])

abbrev main : List Rule
main =
    rule (97 ∷ []) [] [] (40 ∷ 98 ∷ 91 ∷ 102 ∷ 114 ∷ 93 ∷ 124 ∷ 97 ∷ 41 ∷ [])
    ∷ rule (98 ∷ []) [] [] (40 ∷ 97 ∷ 124 ∷ 98 ∷ 91 ∷ 100 ∷ 101 ∷ 93 ∷ 41 ∷ [])
    ∷ rule (99 ∷ []) [] [] (40 ∷ 97 ∷ 91 ∷ 102 ∷ 114 ∷ 93 ∷ 124 ∷ 97 ∷ 91 ∷ 100 ∷ 101 ∷ 93 ∷ 41 ∷ [])
    ∷ rule (100 ∷ []) [] [] (98 ∷ 91 ∷ 100 ∷ 101 ∷ 93 ∷ [])
    ∷ rule (101 ∷ []) [] [] (40 ∷ 97 ∷ 124 ∷ 98 ∷ 41 ∷ [])
    ∷ []

abbrev pack : Pack
pack =
    record {
      names = (97 ∷ 110 ∷ 121 ∷ []) ∷ (100 ∷ 101 ∷ []) ∷ (102 ∷ 114 ∷ []) ∷ [];
      guesses = [];
      lists = main ∷ [] ∷ [] ∷ [] ∷ [] ∷ [] ∷ [] ∷ [] ∷ [] ∷ [] ∷ [] ∷ [];
    }

good_pack : pack_of bytes ≡ accepted pack
unfolding computing
good_pack = refl

-- ---- what is told of a word, from Any

abbrev de : LanguageSet
de = SomeLanguages 2

abbrev fr : LanguageSet
fr = SomeLanguages 4

abbrev a : Text
a = 97 ∷ []

abbrev b : Text
b = 98 ∷ []

abbrev alt : Text → LanguageSet → Alternative
alt t g = record { text = t; langs = g }

abbrev entry : Text → LanguageSet → Entry
entry t g = record { text = t; langs = g }

-- the turns of a word, its places and its main pass
abbrev turns_in : Text → List Turn
turns_in word = turns_of names (first_match (get_or pack.lists 0 [])) word

abbrev places_in : Text → Places
places_in word = rule_places (turns_in word)

abbrev ran_on : ℕ → Text → Ran
ran_on limit word = run false limit (turns_in word) (start Any)

told : (limit : ℕ) (word : Text) (l : List Entry) (flag : Bool) → ran_on limit word ≡ ran l flag → Demand3OfWord limit Any (turns_in word) l flag
told limit word = demand_3_of_a_word names (first_match (get_or pack.lists 0 [])) word Any limit

-- ---- both conditions hold: `axb`, where no rule matches x

abbrev axb : Text
axb = 97 ∷ 120 ∷ 98 ∷ []

axb_places : places_in axb ≡ (alt b fr ∷ alt a Any ∷ []) ∷ (alt a Any ∷ alt b de ∷ []) ∷ []
unfolding computing
axb_places = refl

axb_ran : ran_on 5 axb ≡ ran (entry (a ++ a) Any ∷ entry (a ++ b) de ∷ entry (b ++ a) fr ∷ []) false
unfolding computing
axb_ran = refl

axb_fewer : StayedFewer 5 Any (turns_in axb)
axb_fewer = (told 5 axb _ _ axb_ran).down_fewer refl

axb_alike : AlikeAgree Any (turns_in axb)
unfolding computing AlikeAgree
axb_alike = alike_by_test Any (places_in axb) refl

-- so each of the three choices is there once
axb_once : (c : Choice Any (places_in axb)) → times (spelt c) ((a ++ a) ∷ (a ++ b) ∷ (b ++ a) ∷ []) ≡ 1
axb_once = (told 5 axb _ _ axb_ran).once axb_fewer axb_alike

-- ---- the languages differ: `cd`; a with fr came first and cannot go on, the other a did not come in

abbrev cd : Text
cd = 99 ∷ 100 ∷ []

cd_ran : ran_on 5 cd ≡ ran [] false
unfolding computing
cd_ran = refl

cd_fewer : StayedFewer 5 Any (turns_in cd)
cd_fewer = (told 5 cd _ _ cd_ran).down_fewer refl

-- a with de, then b
cd_choice : Choice Any (places_in cd)
unfolding computing
cd_choice = choose (alt a de) (there here) refl (choose (alt b de) here refl end)

cd_missing : (spelt cd_choice ≡ a ++ b) × (times (spelt cd_choice) [] ≡ 0)
unfolding computing spelt cd_choice times
cd_missing = (refl, refl)

cd_differ : AlikeAgree Any (turns_in cd) → ⊥
unfolding computing AlikeAgree spelt leaves
cd_differ agree =
    let e : fr ≡ de = agree 1 (choose (alt a fr) here refl end) (choose (alt a de) (there here) refl end) refl in
    clash (cc)

-- that is why the condition speaks of choices that cannot go on: cd_choice is the only one that goes to the end
cd_only : (c : Choice Any (places_in cd)) → leaves c ≡ de
unfolding computing leaves
cd_only (choose x here n (choose y here m end)) = clash (cc)
cd_only (choose x (there here) n (choose y here m end)) = refl
cd_only (choose _ here n (choose y (there x) m _)) = elim x [ ]
cd_only (choose _ (there here) n (choose y (there x) m _)) = elim x [ ]
cd_only (choose x (there (there h)) n _) = elim h [ ]

-- ---- the limit is reached: `e`, limit 1

abbrev e : Text
e = 101 ∷ []

e_ran : ran_on 1 e ≡ ran (entry a Any ∷ []) true
unfolding computing
e_ran = refl

e_alike : AlikeAgree Any (turns_in e)
unfolding computing AlikeAgree
e_alike = alike_by_test Any (places_in e) refl

e_choice : Choice Any (places_in e)
unfolding computing
e_choice = choose (alt b Any) (there here) refl end

e_missing : (spelt e_choice ≡ b) × (times (spelt e_choice) (a ∷ []) ≡ 0)
unfolding computing spelt e_choice times
e_missing = (refl, refl)

e_reached : StayedFewer 1 Any (turns_in e) → ⊥
e_reached few =
    let down : true ≡ false = (told 1 e _ _ e_ran).fewer_down few in
    clash (cc)
