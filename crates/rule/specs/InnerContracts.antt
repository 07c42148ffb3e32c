-- What only contracts and proofs of this crate's functions use.
use Rattle.std.specs.Prelude.{ℕ, Bool, false, true, ltb, eqb, leb, List, [], ◌∷◌}
use Rattle.base.specs.Pick.{pick, and}
use Rattle.texts.specs.Parts.{opening}

-- quick tests: each byte is a character from `#` to `~` other than one; and, that one being `[`, a text with nothing to be read closer
unfoldable pub visible : ℕ → ℕ → Bool
visible but b = pick (ltb b 0x23) false (pick (eqb b but) false (leb b 0x7E))

unfoldable pub all_visible : ℕ → List ℕ → Bool
all_visible but [] = true
all_visible but (x ∷ l) = and (visible but x) (all_visible but l)

unfoldable pub visible_literal : List ℕ → Bool
visible_literal s = all_visible opening s
