-- The examples, computed. Assumes nothing.
use mathlib.Core.Path.{refl}
use Rattle.base.specs.Pick.{pick, and}
use Rattle.letters.specs.Utf8.{within, low_second, high_second, code2, code3, code4, decode2, decode3, decode4, decode_bytes, decode_at}
use Rattle.letters.specs.Reading.{symbols_on, symbols_from, symbols_of, codes_in, codes_of}
use Rattle.letters.specs.Order.{order_of, same_text}
use Rattle.texts.specs.Parts.{tail, front, first_is, last_is, place_of, has, prefix_of, suffix_of, without_caret, without_dollar}
use Rattle.languages.specs.Sets.{narrowed, merged, is_empty}
use Rattle.languages.specs.Names.{name_place, bit_at, language_bit}
use Rattle.strings.specs.Reading.{strings, strings_of}
use Rattle.regex_optim.specs.Contexts.{literal_form, box_form, box_inner, boxed, form_in, form_of, left_form, code_at, first_char, code_of, back_char, whole_char, or_else, last_char, char_fits, fits}
use Rattle.phonemes.specs.Expressions.{on_first, cut_at, inside, extra, pieces_in, all_of, formed_piece, formed, box_of, with_bits, names_mask, piece_mask, is_listed, text_of, mask_set, set_of, checked_of}
use Rattle.choices.specs.Texts.{by_order}
use Rattle.choices.specs.Apply.{insert, under, candidates, enter, apply}
use Rattle.phoneme_builder.specs.Sets.{sorted, all_short, appended}
use Rattle.phoneme_builder.specs.Passes.{offered, flagged, applied, after_letter, unmatched, run}
use Rattle.examples.specs.Table.{told, expression, left, applying, appending, parts_by, parts_of, table, AllSame}
use Rattle.prefixes.specs.Prefixes.{prefixes_of, prefix_fits, filtered, that_fit, longest, led_by, split_of}
use Rattle.name_parts.specs.Joining.{joined_name}

-- 01, Examples 1 to 12
pub examples : AllSame table
unfolding
    pick and within low_second high_second code2 code3 code4 decode2 decode3 decode4 decode_bytes decode_at symbols_on symbols_from symbols_of codes_in codes_of
    order_of same_text tail front first_is last_is place_of has prefix_of suffix_of narrowed merged is_empty strings strings_of name_place bit_at language_bit
    literal_form box_form without_caret without_dollar box_inner boxed form_in form_of left_form code_at first_char code_of back_char whole_char or_else last_char char_fits fits
    on_first cut_at inside extra pieces_in all_of formed_piece formed box_of with_bits names_mask piece_mask is_listed text_of mask_set set_of checked_of
    by_order insert under candidates enter apply sorted all_short appended offered flagged applied after_letter unmatched run
    prefixes_of prefix_fits filtered that_fit longest led_by split_of joined_name parts_by parts_of
    told expression left applying appending table
examples = (refl, (refl, (refl, (refl, (refl, (refl, (refl, (refl, (refl, (refl, (refl, (refl, (refl, (refl, (refl, (refl, (refl, (refl, tt))))))))))))))))))
