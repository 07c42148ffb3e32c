-- What the line behind an item guarantees, as the grammar has it: its texts are good. Assumes nothing.
use mathlib.Core.Path.{◌≡◌, refl}
use mathlib.Core.Bool.{true}
use mathlib.Core.List.{List}
use Prim.Native.Nat.{ℕ, ◌<◌}
use lib.ListN.{length}
use Rattle.languages.specs.Names.{language_name}
use Rattle.base.proofs.Arms.{clash}
use Rattle.rules_parser.specs as specs
use specs.Files.{item_at}
use specs.Grammar.{Said, rule, include, guess, name, Printable, LineSays, is_rule, is_include, is_guess, is_name, FoundItem, said, Begins, blank, comment, block, says, said_of}
use Rattle.rules_parser.proofs.GrammarItems.{Begun, item_sound}
use specs.declared.lines.FileKind.{FileKind}
use specs.declared.lines.Clause.{Clause}
use specs.declared.files.Item.TheVariants.{Tells}

unfoldable pub Good : Said → Type 0
Good (rule p l r e) = Printable p × Printable l × Printable r × Printable e
Good (include f) = Unit {0}
Good (guess p n v) = Printable p
Good (name n) = language_name n ≡ true

line_good : {k : FileKind} {l : List ℕ} {x : Said} → LineSays k l x → Good x
unfolding Good
line_good (is_rule (x, y, d, b, (x₁, y₁, d₁, (h₁, t₁), (g₂, w₂, f₂, k₂, (x₂, y₂, d₂, (h₂, t₂), (g₃, w₃, f₃, k₃, (x₃, y₃, d₃, (h₃, t₃), (g₄, w₄, f₄, k₄, (x₄, y₄, d₄, (h₄, t₄), o))))))))) =
    (t₁, t₂, t₃, t₄)
line_good (is_include w) = tt
line_good (is_guess (x, y, d, b, (x₁, y₁, d₁, (h₁, t₁), o)) f g) = t₁
line_good (is_name w h) = h

begins_good : {k : FileKind} {r : List ℕ} {y : FoundItem} {left : List ℕ} (x : Said) → Begins k r y left → y ≡ said x → Good x
begins_good x (blank f h) e = clash (cc)
begins_good x (comment f h) e = clash (cc)
begins_good x (block b) e = clash (cc)
begins_good x (says {x = z} f h) e = let same : z ≡ x = cc in rw (← same) (line_good h)

pub told_good : (k : FileKind) (s : List ℕ) (p : ℕ) (t : Clause) (n : ℕ) → p < length s → item_at k s p ≡ Tells t n → Good (said_of s t)
unfolding Begun
told_good k s p t n h e = begins_good (said_of s t) (rw e at (item_sound k s p h)) refl
