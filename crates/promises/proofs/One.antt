-- What each public function promises settles its answer (01, What the statements have to settle): a law for each, named CRATE-FUNCTION, of the contract that
-- the code itself has (`Asked` and `Learnt` of its `Reads`). Some promises leave something open, as said there:
-- `write_lists` (the buffer after a refusal), `word` (its work buffers), `index` and `first_match` (what is not looked at). Assumes nothing.
use mathlib.Core.Path.{◌≡◌, refl, sym, ap, ap₂, ◌∙◌}
use mathlib.Core.List.{List, []}
use Prim.Native.Nat.{ℕ}
use Rattle.base.proofs.One.{one}
use Rattle.promises.specs.Settled.{Settled, SettledBy}
use Rattle.writing.specs.InnerContracts.{Put}
use Rattle.bundles.proofs.Laws.{numbers_one}
use Rattle.rule_lists.specs.Outcomes.{Loading, fine, not_loaded}
use Rattle.rule_lists.specs.declared.list_writing.Written.{Written}
use Rattle.rule_lists.specs.declared.list_writing.Written.TheVariants.{Done, Refused}
use Rattle.pack.specs.declared.sections.Surveyed.{Surveyed}
use Rattle.rule_index.specs.Matching.{Matcher}
use Rattle.rule_index.specs.InnerContracts.{matcher, seen_in}
use Rattle.rule_index.specs.GuessContracts.{guesser, guesser_by}
use Rattle.languages.specs.declared.sets.LanguageSet.{LanguageSet}
use Rattle.phoneme_builder.specs.declared.words.Worded.{Worded}
use Rattle.lower_case.proofs.LowerLaws.{lowered_one}
use Rattle.languages.proofs.NumberLaws.{set_one, listed_one}
use Rattle.regex_optim.proofs.NumberLaws.{form_one}
use Rattle.phonemes.proofs.NumberLaws.{expression_one}
use Rattle.rules_parser.proofs.NumberLaws.{item_one}
use Rattle.pack.proofs.NumberLaws.{checked_one}
use Rattle.pack.proofs.Laws.{survey_one}
use Rattle.loader.proofs.Accepted.{load_one}
use Rattle.rule_index.proofs.IndexLaws.{index_one}
use Rattle.rule_index.proofs.MatchLaws.{match_one}
use Rattle.phoneme_builder.proofs.WordLaws.{word_one}
use Rattle.engine.proofs.AnswerLaws.{spell_one}
use Rattle.engine.proofs.LinesLaws.{lines_one}
use Rattle.bm.proofs.FlatLaws.{load_flat_one, check_flat_one, spell_flat_one, lines_flat_one}
use Rattle.refusals.proofs as refusals
use Rattle.refusals.specs.contracts as refusals_contracts
use Rattle.letters.proofs as letters
use Rattle.letters.specs.contracts as letters_contracts
use Rattle.lower_case.proofs as lower_case
use Rattle.lower_case.specs.contracts as lower_case_contracts
use Rattle.texts.proofs as texts
use Rattle.texts.specs.contracts as texts_contracts
use Rattle.writing.proofs as writing
use Rattle.writing.specs.contracts as writing_contracts
use Rattle.strings.proofs as strings
use Rattle.strings.specs.contracts as strings_contracts
use Rattle.languages.proofs as languages
use Rattle.languages.specs.contracts as languages_contracts
use Rattle.name_parts.proofs as name_parts
use Rattle.name_parts.specs.contracts as name_parts_contracts
use Rattle.prefixes.proofs as prefixes
use Rattle.prefixes.specs.contracts as prefixes_contracts
use Rattle.regex_optim.proofs as regex_optim
use Rattle.regex_optim.specs.contracts as regex_optim_contracts
use Rattle.lang.proofs as lang
use Rattle.lang.specs.contracts as lang_contracts
use Rattle.rule.proofs as rule
use Rattle.rule.specs.contracts as rule_contracts
use Rattle.phonemes.proofs as phonemes
use Rattle.phonemes.specs.contracts as phonemes_contracts
use Rattle.rule_lines.proofs as rule_lines
use Rattle.rule_lines.specs.contracts as rule_lines_contracts
use Rattle.pack.proofs as pack
use Rattle.pack.specs.contracts as pack_contracts
use Rattle.rules_parser.proofs as rules_parser
use Rattle.rules_parser.specs.contracts as rules_parser_contracts
use Rattle.pack_bytes.proofs as pack_bytes
use Rattle.pack_bytes.specs.contracts as pack_bytes_contracts
use Rattle.bundles.proofs as bundles
use Rattle.bundles.specs.contracts as bundles_contracts
use Rattle.rule_lists.proofs as rule_lists
use Rattle.rule_lists.specs.contracts as rule_lists_contracts
use Rattle.loader.proofs as loader
use Rattle.loader.specs.contracts as loader_contracts
use Rattle.rule_index.proofs as rule_index
use Rattle.rule_index.specs.contracts as rule_index_contracts
use Rattle.phoneme_builder.proofs as phoneme_builder
use Rattle.phoneme_builder.specs.contracts as phoneme_builder_contracts
use Rattle.engine.proofs as engine
use Rattle.engine.specs.contracts as engine_contracts
use Rattle.beider_morse.proofs as beider_morse
use Rattle.beider_morse.specs.contracts as beider_morse_contracts
use Rattle.bm.proofs as bm
use Rattle.bm.specs.contracts as bm_contracts
use Rattle.rule_lists.specs.InnerContracts.{WrittenIs}

-- one result, and one content at its place among the parameters; of two buffers; of what was put into one

content : {A B C : Type 0} {x y : A} {o p : B} (f : B → C) → (x ≡ y) × (o ≡ p) → (x ≡ y) × (f o ≡ f p)
content f e = (e.0, ap f e.1)

contents : {A B C D : Type 0} {x y : A} {o p : B} {t u : C} (f : B → C → D) → (x ≡ y) × (o ≡ p) × (t ≡ u) → (x ≡ y) × (f o t ≡ f p u)
contents f (e, b, c) = (e, ap₂ f b c)

put_one : {out o p t : List ℕ} {at x y : ℕ} → Put out o at x t → Put out p at y t → (x ≡ y) × (o ≡ p)
put_one a b = (one a.ends b.ends, one a.wrote b.wrote)

-- ---- refusals

pub refusals_number_of : Settled refusals_contracts.number_of.ended refusals.number_of.Reads.Asked refusals.number_of.Reads.Learnt
refusals_number_of κs a = (tt, λ x y v w p q. (one p q, refl))

-- ---- letters

pub letters_decode : Settled letters_contracts.decode.ended letters.decode.Reads.Asked letters.decode.Reads.Learnt
letters_decode κs a = (tt, λ x y v w p q. (one p q, refl))

pub letters_first_ill : Settled letters_contracts.first_ill.ended letters.first_ill.Reads.Asked letters.first_ill.Reads.Learnt
letters_first_ill κs a = (tt, λ x y v w p q. (one p q, refl))

pub letters_in_range : Settled letters_contracts.in_range.ended letters.in_range.Reads.Asked letters.in_range.Reads.Learnt
letters_in_range κs a = (tt, λ x y v w p q. (one p q, refl))

pub letters_first_outside : Settled letters_contracts.first_outside.ended letters.first_outside.Reads.Asked letters.first_outside.Reads.Learnt
letters_first_outside κs a = (tt, λ x y v w p q. (one p q, refl))

pub letters_compare : Settled letters_contracts.compare.ended letters.compare.Reads.Asked letters.compare.Reads.Learnt
letters_compare κs a = (tt, λ x y v w p q. (one p q, refl))

pub letters_same : Settled letters_contracts.same.ended letters.same.Reads.Asked letters.same.Reads.Learnt
letters_same κs a = (tt, λ x y v w p q. (one p q, refl))

-- ---- lower_case

pub lower_case_lower : Settled lower_case_contracts.lower.ended lower_case.lower.Reads.Asked lower_case.lower.Reads.Learnt
lower_case_lower κs a = (tt, λ x y v w p q. (one p q, refl))

pub lower_case_lower_into : Settled lower_case_contracts.lower_into.ended lower_case.lower_into.Reads.Asked lower_case.lower_into.Reads.Learnt
lower_case_lower_into κs a = (tt, λ x y v w p q. content (λ o. (tt, (o, tt))) (lowered_one p q))

-- ---- texts

pub texts_first_is : Settled texts_contracts.first_is.ended texts.first_is.Reads.Asked texts.first_is.Reads.Learnt
texts_first_is κs a = (tt, λ x y v w p q. (one p q, refl))

pub texts_last_is : Settled texts_contracts.last_is.ended texts.last_is.Reads.Asked texts.last_is.Reads.Learnt
texts_last_is κs a = (tt, λ x y v w p q. (one p q, refl))

pub texts_find_byte : Settled texts_contracts.find_byte.ended texts.find_byte.Reads.Asked texts.find_byte.Reads.Learnt
texts_find_byte κs a = (tt, λ x y v w p q. (one p q, refl))

pub texts_starts_with : Settled texts_contracts.starts_with.ended texts.starts_with.Reads.Asked texts.starts_with.Reads.Learnt
texts_starts_with κs a = (tt, λ x y v w p q. (one p q, refl))

pub texts_ends_with : Settled texts_contracts.ends_with.ended texts.ends_with.Reads.Asked texts.ends_with.Reads.Learnt
texts_ends_with κs a = (tt, λ x y v w p q. (one p q, refl))

pub texts_without_caret : SettledBy texts_contracts.without_caret.ended (λ κs a x v. x.now) texts.without_caret.Reads.Asked texts.without_caret.Reads.Learnt
texts_without_caret κs a = (tt, λ x y v w. one)

pub texts_without_dollar : SettledBy texts_contracts.without_dollar.ended (λ κs a x v. x.now) texts.without_dollar.Reads.Asked texts.without_dollar.Reads.Learnt
texts_without_dollar κs a = (tt, λ x y v w. one)

pub texts_has_char : Settled texts_contracts.has_char.ended texts.has_char.Reads.Asked texts.has_char.Reads.Learnt
texts_has_char κs a = (tt, λ x y v w p q. (one p q, refl))

pub texts_first_byte : Settled texts_contracts.first_byte.ended texts.first_byte.Reads.Asked texts.first_byte.Reads.Learnt
texts_first_byte κs a = (tt, λ x y v w p q. (one p q, refl))

pub texts_last_byte : Settled texts_contracts.last_byte.ended texts.last_byte.Reads.Asked texts.last_byte.Reads.Learnt
texts_last_byte κs a = (tt, λ x y v w p q. (one p q, refl))

pub texts_bit_of : Settled texts_contracts.bit_of.ended texts.bit_of.Reads.Asked texts.bit_of.Reads.Learnt
texts_bit_of κs a = (tt, λ x y v w p q. (one p q, refl))

pub texts_signature : Settled texts_contracts.signature.ended texts.signature.Reads.Asked texts.signature.Reads.Learnt
texts_signature κs a = (tt, λ x y v w p q. (one p q, refl))

pub texts_has_bits : Settled texts_contracts.has_bits.ended texts.has_bits.Reads.Asked texts.has_bits.Reads.Learnt
texts_has_bits κs a = (tt, λ x y v w p q. (one p q, refl))

-- ---- writing

pub writing_push : Settled writing_contracts.push.ended writing.push.Reads.Asked writing.push.Reads.Learnt
writing_push κs a = (tt, λ x y v w p q. content (λ o. (o, (tt, (tt, tt)))) (put_one p q))

pub writing_copy : Settled writing_contracts.copy.ended writing.copy.Reads.Asked writing.copy.Reads.Learnt
writing_copy κs a = (tt, λ x y v w p q. content (λ o. (tt, (o, (tt, tt)))) (put_one p q))

-- ---- strings

pub strings_string_at : Settled strings_contracts.string_at.ended strings.string_at.Reads.Asked strings.string_at.Reads.Learnt
strings_string_at κs a = (tt, λ x y v w p q. (one p q, refl))

pub strings_byte_at : Settled strings_contracts.byte_at.ended strings.byte_at.Reads.Asked strings.byte_at.Reads.Learnt
strings_byte_at κs a = (tt, λ x y v w p q. (one p.is q.is, refl))

pub strings_count_at : Settled strings_contracts.count_at.ended strings.count_at.Reads.Asked strings.count_at.Reads.Learnt
strings_count_at κs a = (tt, λ x y v w p q. (one p q, refl))

pub strings_mask_at : Settled strings_contracts.mask_at.ended strings.mask_at.Reads.Asked strings.mask_at.Reads.Learnt
strings_mask_at κs a = (tt, λ x y v w p q. (one p q, refl))

-- ---- languages

pub languages_merge : Settled languages_contracts.sets.LanguageSet.merge.ended languages.sets.LanguageSet.merge.Reads.Asked languages.sets.LanguageSet.merge.Reads.Learnt
languages_merge κs a = (tt, λ x y v w p q. (set_one x y (one p q), refl))

pub languages_is_singleton : Settled languages_contracts.sets.LanguageSet.is_singleton.ended languages.sets.LanguageSet.is_singleton.Reads.Asked languages.sets.LanguageSet.is_singleton.Reads.Learnt
languages_is_singleton κs a = (tt, λ x y v w p q. (one p q, refl))

pub languages_single : Settled languages_contracts.sets.LanguageSet.single.ended languages.sets.LanguageSet.single.Reads.Asked languages.sets.LanguageSet.single.Reads.Learnt
languages_single κs a = (tt, λ x y v w p q. (one p q, refl))

pub languages_subtract : Settled languages_contracts.subtract.ended languages.subtract.Reads.Asked languages.subtract.Reads.Learnt
languages_subtract κs a = (tt, λ x y v w p q. (one p q, refl))

pub languages_coded : Settled languages_contracts.coded.ended languages.coded.Reads.Asked languages.coded.Reads.Learnt
languages_coded κs a = (tt, λ x y v w p q. (one p q, refl))

pub languages_narrow_codes : Settled languages_contracts.narrow_codes.ended languages.narrow_codes.Reads.Asked languages.narrow_codes.Reads.Learnt
languages_narrow_codes κs a = (tt, λ x y v w p q. (one p q, refl))

pub languages_merge_codes : Settled languages_contracts.merge_codes.ended languages.merge_codes.Reads.Asked languages.merge_codes.Reads.Learnt
languages_merge_codes κs a = (tt, λ x y v w p q. (one p q, refl))

pub languages_is_language_name : Settled languages_contracts.is_language_name.ended languages.is_language_name.Reads.Asked languages.is_language_name.Reads.Learnt
languages_is_language_name κs a = (tt, λ x y v w p q. (one p q, refl))

pub languages_find_language : Settled languages_contracts.find_language.ended languages.find_language.Reads.Asked languages.find_language.Reads.Learnt
languages_find_language κs a = (tt, λ x y v w p q. (listed_one x y (one p q), refl))

-- ---- name_parts

pub name_parts_next_word : SettledBy name_parts_contracts.next_word.ended (λ κs a x v. x.now) name_parts.next_word.Reads.Asked name_parts.next_word.Reads.Learnt
name_parts_next_word κs a = (tt, λ x y v w. one)

pub name_parts_past_word : Settled name_parts_contracts.past_word.ended name_parts.past_word.Reads.Asked name_parts.past_word.Reads.Learnt
name_parts_past_word κs a = (tt, λ x y v w p q. (one p q, refl))

pub name_parts_one_word : Settled name_parts_contracts.one_word.ended name_parts.one_word.Reads.Asked name_parts.one_word.Reads.Learnt
name_parts_one_word κs a = (tt, λ x y v w p q. (one p q, refl))

pub name_parts_replace_hyphens : Settled name_parts_contracts.replace_hyphens.ended name_parts.replace_hyphens.Reads.Asked name_parts.replace_hyphens.Reads.Learnt
name_parts_replace_hyphens κs a = (tt, λ x y v w p q. (refl, ap (λ o. (o, tt)) (one p q)))

pub name_parts_join_prefix : Settled name_parts_contracts.join_prefix.ended name_parts.join_prefix.Reads.Asked name_parts.join_prefix.Reads.Learnt
name_parts_join_prefix κs a = (tt, λ x y v w p q. content (λ o. (tt, (tt, (tt, (o, tt))))) (put_one p q))

pub name_parts_join_words : Settled name_parts_contracts.join_words.ended name_parts.join_words.Reads.Asked name_parts.join_words.Reads.Learnt
name_parts_join_words κs a = (tt, λ x y v w p q. content (λ o. (tt, (tt, (o, tt)))) (put_one p q))

-- ---- prefixes

pub prefixes_prefix_of : Settled prefixes_contracts.prefix_of.ended prefixes.prefix_of.Reads.Asked prefixes.prefix_of.Reads.Learnt
prefixes_prefix_of κs a = (tt, λ x y v w p q. (one p q, refl))

pub prefixes_is_prefix : Settled prefixes_contracts.is_prefix.ended prefixes.is_prefix.Reads.Asked prefixes.is_prefix.Reads.Learnt
prefixes_is_prefix κs a = (tt, λ x y v w p q. (one p q, refl))

-- ---- regex_optim

pub regex_optim_left_form : Settled regex_optim_contracts.left_form.ended regex_optim.left_form.Reads.Asked regex_optim.left_form.Reads.Learnt
regex_optim_left_form κs a = (tt, λ x y v w p q. (form_one x y (one p q), refl))

pub regex_optim_right_form : Settled regex_optim_contracts.right_form.ended regex_optim.right_form.Reads.Asked regex_optim.right_form.Reads.Learnt
regex_optim_right_form κs a = (tt, λ x y v w p q. (form_one x y (one p q), refl))

pub regex_optim_left_is_empty_box : Settled regex_optim_contracts.left_is_empty_box.ended regex_optim.left_is_empty_box.Reads.Asked regex_optim.left_is_empty_box.Reads.Learnt
regex_optim_left_is_empty_box κs a = (tt, λ x y v w p q. (one p q, refl))

pub regex_optim_right_is_empty_box : Settled regex_optim_contracts.right_is_empty_box.ended regex_optim.right_is_empty_box.Reads.Asked regex_optim.right_is_empty_box.Reads.Learnt
regex_optim_right_is_empty_box κs a = (tt, λ x y v w p q. (one p q, refl))

pub regex_optim_left_fits : Settled regex_optim_contracts.left_fits.ended regex_optim.left_fits.Reads.Asked regex_optim.left_fits.Reads.Learnt
regex_optim_left_fits κs a = (tt, λ x y v w p q. (one p q, refl))

pub regex_optim_right_fits : Settled regex_optim_contracts.right_fits.ended regex_optim.right_fits.Reads.Asked regex_optim.right_fits.Reads.Learnt
regex_optim_right_fits κs a = (tt, λ x y v w p q. (one p q, refl))

pub regex_optim_left_bits : Settled regex_optim_contracts.left_bits.ended regex_optim.left_bits.Reads.Asked regex_optim.left_bits.Reads.Learnt
regex_optim_left_bits κs a = (tt, λ x y v w p q. (one p q, refl))

pub regex_optim_right_bits : Settled regex_optim_contracts.right_bits.ended regex_optim.right_bits.Reads.Asked regex_optim.right_bits.Reads.Learnt
regex_optim_right_bits κs a = (tt, λ x y v w p q. (one p q, refl))

-- ---- lang

pub lang_check_pattern : Settled lang_contracts.check_pattern.ended lang.check_pattern.Reads.Asked lang.check_pattern.Reads.Learnt
lang_check_pattern κs a = (tt, λ x y v w p q. (one p q, refl))

pub lang_matches : Settled lang_contracts.matches.ended lang.matches.Reads.Asked lang.matches.Reads.Learnt
lang_matches κs a = (tt, λ x y v w p q. (one p q, refl))

pub lang_find_pairs : Settled lang_contracts.find_pairs.ended lang.find_pairs.Reads.Asked lang.find_pairs.Reads.Learnt
lang_find_pairs κs a = (tt, λ x y v w p q. (one p q, refl))

pub lang_required_pairs : Settled lang_contracts.required_pairs.ended lang.required_pairs.Reads.Asked lang.required_pairs.Reads.Learnt
lang_required_pairs κs a = (tt, λ x y v w p q. (one p q, refl))

pub lang_required_bits : Settled lang_contracts.required_bits.ended lang.required_bits.Reads.Asked lang.required_bits.Reads.Learnt
lang_required_bits κs a = (tt, λ x y v w p q. (one p q, refl))

-- ---- rule

pub rule_is_rule_text : Settled rule_contracts.is_rule_text.ended rule.is_rule_text.Reads.Asked rule.is_rule_text.Reads.Learnt
rule_is_rule_text κs a = (tt, λ x y v w p q. (one p q, refl))

pub rule_first_code : Settled rule_contracts.first_code.ended rule.first_code.Reads.Asked rule.first_code.Reads.Learnt
rule_first_code κs a = (tt, λ x y v w p q. (one p q, refl))

pub rule_rule_matches : Settled rule_contracts.rule_matches.ended rule.rule_matches.Reads.Asked rule.rule_matches.Reads.Learnt
rule_rule_matches κs a = (tt, λ x y v w p q. (one p q, refl))

pub rule_is_visible_literal : Settled rule_contracts.is_visible_literal.ended rule.is_visible_literal.Reads.Asked rule.is_visible_literal.Reads.Learnt
rule_is_visible_literal κs a = (tt, λ x y v w p q. (one p q, refl))

-- ---- phonemes

pub phonemes_names_mask : Settled phonemes_contracts.names_mask.ended phonemes.names_mask.Reads.Asked phonemes.names_mask.Reads.Learnt
phonemes_names_mask κs a = (tt, λ x y v w p q. (listed_one x y (one p q), refl))

pub phonemes_check_expression : Settled phonemes_contracts.check_expression.ended phonemes.check_expression.Reads.Asked phonemes.check_expression.Reads.Learnt
phonemes_check_expression κs a = (tt, λ x y v w p q. (expression_one x y (one p q), refl))

pub phonemes_alternative : Settled phonemes_contracts.alternative.ended phonemes.alternative.Reads.Asked phonemes.alternative.Reads.Learnt
phonemes_alternative κs a = (tt, λ x y v w p q. (one p q, refl))

-- ---- rule_lines

pub rule_lines_rule_fault : Settled rule_lines_contracts.rule_fault.ended rule_lines.rule_fault.Reads.Asked rule_lines.rule_fault.Reads.Learnt
rule_lines_rule_fault κs a = (tt, λ x y v w p q. (one p q, refl))

pub rule_lines_rule_good : Settled rule_lines_contracts.rule_good.ended rule_lines.rule_good.Reads.Asked rule_lines.rule_good.Reads.Learnt
rule_lines_rule_good κs a = (tt, λ x y v w p q. (one p q, refl))

-- ---- pack

pub pack_rule_at : Settled pack_contracts.rule_at.ended pack.rule_at.Reads.Asked pack.rule_at.Reads.Learnt
pack_rule_at κs a = (tt, λ x y v w p q. (one p q, refl))

pub pack_rule_count : Settled pack_contracts.rule_count.ended pack.rule_count.Reads.Asked pack.rule_count.Reads.Learnt
pack_rule_count κs a = (tt, λ x y v w p q. (one p q, refl))

pub pack_guess_at : Settled pack_contracts.guess_at.ended pack.guess_at.Reads.Asked pack.guess_at.Reads.Learnt
pack_guess_at κs a = (tt, λ x y v w p q. (one p q, refl))

pub pack_listed_mask : Settled pack_contracts.listed_mask.ended pack.listed_mask.Reads.Asked pack.listed_mask.Reads.Learnt
pack_listed_mask κs a = (tt, λ x y v w p q. (one p q, refl))

pub pack_note_rule : Settled pack_contracts.note_rule.ended pack.note_rule.Reads.Asked pack.note_rule.Reads.Learnt
pack_note_rule κs a = (tt, λ x y v w p q. (refl, ap (λ o. (o, (tt, (tt, (tt, tt))))) (one p q)))

pub pack_survey : Settled pack_contracts.survey.ended pack.survey.Reads.Asked pack.survey.Reads.Learnt
pack_survey κs a = (tt, λ x y v w p q. contents (λ o r. (tt, (o, (r, tt)))) (survey_one p q))

pub pack_check_pack : Settled pack_contracts.check_pack.ended pack.check_pack.Reads.Asked pack.check_pack.Reads.Learnt
pack_check_pack κs a = (tt, λ x y v w p q. (checked_one x y (one p q), refl))

-- ---- rules_parser

pub rules_parser_part : SettledBy rules_parser_contracts.part.ended (λ κs a x v. x.now) rules_parser.part.Reads.Asked rules_parser.part.Reads.Learnt
rules_parser_part κs a = (tt, λ x y v w. one)

pub rules_parser_read_item : Settled rules_parser_contracts.read_item.ended rules_parser.read_item.Reads.Asked rules_parser.read_item.Reads.Learnt
rules_parser_read_item κs a = (tt, λ x y v w p q. (item_one x y (one p q), refl))

pub rules_parser_rule_strings : Settled rules_parser_contracts.rule_strings.ended rules_parser.rule_strings.Reads.Asked rules_parser.rule_strings.Reads.Learnt
rules_parser_rule_strings κs a = (tt, λ x y v w p q. (one p q, refl))

-- ---- pack_bytes

pub pack_bytes_put_text : Settled pack_bytes_contracts.put_text.ended pack_bytes.put_text.Reads.Asked pack_bytes.put_text.Reads.Learnt
pack_bytes_put_text κs a = (tt, λ x y v w p q. content (λ o. (tt, (o, (tt, tt)))) (put_one p q))

pub pack_bytes_put_count : Settled pack_bytes_contracts.put_count.ended pack_bytes.put_count.Reads.Asked pack_bytes.put_count.Reads.Learnt
pack_bytes_put_count κs a = (tt, λ x y v w p q. content (λ o. (tt, (o, (tt, tt)))) (put_one p q))

pub pack_bytes_put_mask : Settled pack_bytes_contracts.put_mask.ended pack_bytes.put_mask.Reads.Asked pack_bytes.put_mask.Reads.Learnt
pack_bytes_put_mask κs a = (tt, λ x y v w p q. content (λ o. (tt, (o, (tt, tt)))) (put_one p q))

-- ---- bundles

pub bundles_check_bundle : Settled bundles_contracts.check_bundle.ended bundles.check_bundle.Reads.Asked bundles.check_bundle.Reads.Learnt
bundles_check_bundle κs a = (tt, λ x y v w p q. (one p q, refl))

pub bundles_find_file : Settled bundles_contracts.find_file.ended bundles.find_file.Reads.Asked bundles.find_file.Reads.Learnt
bundles_find_file κs a = (tt, λ x y v w p q. (numbers_one x y (one p q), refl))

-- ---- rule_lists

-- the content where the answer is no refusal: of the buffer after a refusal the promise says nothing
unfoldable pub kept : Written → List ℕ → List ℕ
kept (Done n) o = o
kept (Refused c l f) o = []

told_one : {A : Type 0} (bytes : A → List ℕ) (t : Loading A) (out : List ℕ) (at : ℕ) (x y : Written) (o p : List ℕ) → WrittenIs bytes t out o at x → WrittenIs bytes t out p at y → ◌≡◌ {A = Written × List ℕ} (x, kept x o) (y, kept y p)
unfolding WrittenIs kept
told_one bytes (fine v) out at x y o p (m, d, a) (n, e, b) = ap₂ (λ (r : Written) (c : List ℕ). (r, kept r c)) (d ∙ ap Done (one a.ends b.ends) ∙ sym e) (one a.wrote b.wrote)
told_one bytes (not_loaded c l f) out at x y o p a b = ap (λ (r : Written). (r, kept r o)) a ∙ sym (ap (λ (r : Written). (r, kept r p)) b)

pub rule_lists_write_lists : SettledBy rule_lists_contracts.write_lists.ended {B = Written × List ℕ} (λ κs a x v. (x, kept x v.1.1.1.0)) rule_lists.write_lists.Reads.Asked rule_lists.write_lists.Reads.Learnt
rule_lists_write_lists κs a = (tt, λ x y v w. told_one _ _ _ _ x y _ _)

-- ---- loader

pub loader_load : Settled loader_contracts.load.ended loader.load.Reads.Asked loader.load.Reads.Learnt
loader_load κs a = (tt, λ x y v w p q. content (λ o. (tt, (tt, (o, tt)))) (load_one _ _ p q))

-- ---- rule_index: of the table is told what is found and guessed by it, and of a match the expression and not its place

pub rule_index_index : SettledBy rule_index_contracts.index.ended {B = Surveyed × (ℕ → Matcher) × (List ℕ → LanguageSet)} (λ κs a x v. (x, matcher a.0.now v.1.0, guesser_by (guesser a.0.now v.1.0) x)) rule_index.index.Reads.Asked rule_index.index.Reads.Learnt
rule_index_index κs a = (tt, λ x y v w. index_one _ x y _ _)

pub rule_index_first_match : SettledBy rule_index_contracts.first_match.ended (λ κs a x v. seen_in a.0.now x) rule_index.first_match.Reads.Asked rule_index.first_match.Reads.Learnt
rule_index_first_match κs a = (tt, λ x y v w. match_one _ _ _ _ x y)

pub rule_index_guess_languages : Settled rule_index_contracts.guess_languages.ended rule_index.guess_languages.Reads.Asked rule_index.guess_languages.Reads.Learnt
rule_index_guess_languages κs a = (tt, λ x y v w p q. (set_one x y (one p q), refl))

-- ---- phoneme_builder: of its two work buffers `word` promises nothing; the third, `out`, is its seventh parameter

pub phoneme_builder_word : SettledBy phoneme_builder_contracts.word.ended {B = Worded × List ℕ} (λ κs a x v. (x, v.1.1.1.1.1.1.0)) phoneme_builder.word.Reads.Asked phoneme_builder.word.Reads.Learnt
phoneme_builder_word κs a = (tt, λ x y v w p q. let e = word_one p q in ap₂ (λ r o. (r, o)) e.0 e.1)

-- ---- engine

pub engine_spell : Settled engine_contracts.spell.ended engine.spell.Reads.Asked engine.spell.Reads.Learnt
engine_spell κs a = (tt, λ x y v w p q. content (λ o. (tt, (tt, (tt, (tt, (o, tt)))))) (spell_one p q))

pub engine_spell_lines : Settled engine_contracts.spell_lines.ended engine.spell_lines.Reads.Asked engine.spell_lines.Reads.Learnt
engine_spell_lines κs a = (tt, λ x y v w p q. content (λ o. (tt, (tt, (tt, (tt, (o, tt)))))) (lines_one p q))

-- ---- beider_morse

pub beider_morse_load : Settled beider_morse_contracts.load.ended beider_morse.load.Reads.Asked beider_morse.load.Reads.Learnt
beider_morse_load κs a = (tt, λ x y v w p q. content (λ o. (tt, (tt, (o, tt)))) (load_one _ _ p q))

pub beider_morse_check : Settled beider_morse_contracts.check.ended beider_morse.check.Reads.Asked beider_morse.check.Reads.Learnt
beider_morse_check κs a = (tt, λ x y v w p q. (checked_one x y (one p q), refl))

pub beider_morse_spell : Settled beider_morse_contracts.spell.ended beider_morse.spell.Reads.Asked beider_morse.spell.Reads.Learnt
beider_morse_spell κs a = (tt, λ x y v w p q. content (λ o. (tt, (tt, (tt, (o, tt))))) (spell_one p q))

pub beider_morse_spell_given : Settled beider_morse_contracts.spell_given.ended beider_morse.spell_given.Reads.Asked beider_morse.spell_given.Reads.Learnt
beider_morse_spell_given κs a = (tt, λ x y v w p q. content (λ o. (tt, (tt, (tt, (tt, (tt, (o, tt))))))) (spell_one p q))

pub beider_morse_spell_lines : Settled beider_morse_contracts.spell_lines.ended beider_morse.spell_lines.Reads.Asked beider_morse.spell_lines.Reads.Learnt
beider_morse_spell_lines κs a = (tt, λ x y v w p q. content (λ o. (tt, (tt, (tt, (tt, (o, tt)))))) (lines_one p q))

-- ---- bm

pub bm_bm_load : Settled bm_contracts.bm_load.ended bm.bm_load.Reads.Asked bm.bm_load.Reads.Learnt
bm_bm_load κs a = (tt, λ x y v w p q. contents (λ o t. (tt, (tt, (o, (t, tt))))) (load_flat_one p q))

pub bm_bm_check : Settled bm_contracts.bm_check.ended bm.bm_check.Reads.Asked bm.bm_check.Reads.Learnt
bm_bm_check κs a = (tt, λ x y v w p q. content (λ o. (tt, (o, tt))) (check_flat_one p q))

pub bm_bm_spell : Settled bm_contracts.bm_spell.ended bm.bm_spell.Reads.Asked bm.bm_spell.Reads.Learnt
bm_bm_spell κs a = (tt, λ x y v w p q. contents (λ o t. (tt, (tt, (tt, (tt, (tt, (tt, (o, (t, tt))))))))) (spell_flat_one p q))

pub bm_bm_spell_given : Settled bm_contracts.bm_spell_given.ended bm.bm_spell_given.Reads.Asked bm.bm_spell_given.Reads.Learnt
bm_bm_spell_given κs a = (tt, λ x y v w p q. contents (λ o t. (tt, (tt, (tt, (tt, (tt, (tt, (tt, (tt, (o, (t, tt))))))))))) (spell_flat_one p q))

pub bm_bm_spell_lines : Settled bm_contracts.bm_spell_lines.ended bm.bm_spell_lines.Reads.Asked bm.bm_spell_lines.Reads.Learnt
bm_bm_spell_lines κs a = (tt, λ x y v w p q. contents (λ o t. (tt, (tt, (tt, (tt, (tt, (tt, (tt, (tt, (tt, (o, (t, tt)))))))))))) (lines_flat_one p q))
