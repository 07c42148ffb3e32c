-- The small files, computed. Assumes nothing.
use mathlib.Core.Path.{refl}
use Rattle.base.specs.Pick.{pick, and}
use Rattle.letters.specs.Utf8.{within, low_second, high_second, code2, code3, code4, decode2, decode3, decode4, decode_bytes, decode_at}
use Rattle.letters.specs.Reading.{symbols_on, symbols_from, symbols_of}
use Rattle.letters.specs.Order.{same_text}
use Rattle.texts.specs.Parts.{prefix_of}
use Rattle.languages.specs.Names.{is_letter, all_letters, language_name}
use Rattle.rule.specs.Matching.{plain_code, plain_in, rule_text}
use Rattle.rules_parser.specs as specs
use specs.Fields.{part_of, passes_of, span_of, span_end, pair_at, quoted_at, bare_at, field_at, parted_at, ends_at, tail_ok}
use specs.Lines.{on_field, text_at, rule_told, last_two, four_at, include_at, rule_at, guess_told, accept_told, guess_end, guess_at, name_told, name_at, told_at, line_at}
use specs.Files.{counted_of, close_in, close_at, text_end, next_line, rest_blank, on_close, comment_at, on_line, item_at, on_next, items_from, items_of}
use specs.Grammar.{said_of, found_of}
use specs.LineExamples.{bytes, comments, lines, AllFound}

-- what the examples compute with
computing : Unit {0}
unfolding
    pick and within low_second high_second code2 code3 code4 decode2 decode3 decode4 decode_bytes decode_at symbols_on symbols_from symbols_of same_text prefix_of
    is_letter all_letters language_name plain_code plain_in rule_text part_of passes_of span_of span_end pair_at quoted_at bare_at field_at parted_at ends_at tail_ok
    on_field text_at rule_told last_two four_at include_at rule_at guess_told accept_told guess_end guess_at name_told name_at told_at line_at
    counted_of close_in close_at text_end next_line rest_blank on_close comment_at on_line item_at on_next items_from items_of said_of found_of bytes
computing = tt

pub comments_found : AllFound comments
unfolding computing comments
comments_found = (refl, (refl, (refl, (refl, (refl, (refl, (refl, (refl, tt))))))))

pub lines_found : AllFound lines
unfolding computing lines
lines_found =
    (refl, (refl, (refl, (refl, (refl, (refl, (refl, (refl, (refl, (refl, (refl, (refl, (refl, (refl, (refl, (refl, (refl, tt)))))))))))))))))
