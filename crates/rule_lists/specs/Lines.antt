-- The lines of a rule file (01, Rule files and includes).
use Rattle.refusals.specs.declared.Refusal.{Refusal}
use Rattle.std.specs.Prelude.{ℕ, List, map, Option, Some, None}
use Rattle.refusals.specs.declared.Refusal.TheVariants.{LineUnreadable}
use Rattle.rule_lines.specs.Rules.{Rule, rule, rule_fault}
use Rattle.held.specs.Files.{Line, passed, is_rule, include, bad_line}
use Rattle.rules_parser.specs.Fields.{part_of}
use Rattle.rules_parser.specs.Files.{items_of}
use Rattle.rules_parser.specs.declared.fields.Text.{Text}
use Rattle.rules_parser.specs.declared.lines.FileKind.TheVariants.{Rules}
use Rattle.rules_parser.specs.declared.lines.Clause.TheVariants as told
use Rattle.rules_parser.specs.declared.files.Item.{Item}
use Rattle.rules_parser.specs.declared.files.Item.TheVariants as item

-- the rule of four texts of a file
abbrev pub rule_in : List ℕ → Text → Text → Text → Text → Rule
rule_in s a b c d = rule (part_of s a) (part_of s b) (part_of s c) (part_of s d)

unfoldable pub judged_rule : Option Refusal → Rule → Line Rule
judged_rule None r = is_rule r
judged_rule (Some w) r = bad_line w

unfoldable pub line_of : List ℕ → List ℕ → Item → Line Rule
line_of names s (item.Passed k n) = passed k
line_of names s (item.Tells (told.Rule a b c d) n) = judged_rule (rule_fault names (rule_in s a b c d)) (rule_in s a b c d)
line_of names s (item.Tells (told.Include t) n) = include (part_of s t)
line_of names s (item.Tells (told.Guess a b v) n) = bad_line LineUnreadable
line_of names s (item.Tells (told.Name t) n) = bad_line LineUnreadable
line_of names s item.Wrong = bad_line LineUnreadable

-- the lines of a file
unfoldable pub lines_of : List ℕ → List ℕ → List (Line Rule)
lines_of names s = map (line_of names s) (items_of Rules s)
