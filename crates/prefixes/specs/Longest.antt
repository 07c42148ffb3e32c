-- What the theorems of request 5 say (02, ticket 5).
use Rattle.std.specs.Prelude.{ℕ, suc, ◌≡◌, true, List, [], ◌∷◌, length}
use Rattle.base.specs.Pick.{pick}
use Rattle.texts.specs.Parts.{prefix_of}
use Rattle.prefixes.specs.Prefixes.{prefixes_of, prefix_fits, is_prefix}
use Rattle.prefixes.specs.declared.prefixes.NameType.TheVariants.{Generic}
use Rattle.prefixes.specs.declared.prefixes.Prefix.{Prefix}
use Rattle.prefixes.specs.declared.prefixes.Prefix.TheVariants.{Leads, Whole}

-- p is a prefix, and fits the name s
pub record FitsName (s p : List ℕ) : Type 0 where
  pub listed : is_prefix Generic p ≡ true
  pub fits : prefix_fits p s ≡ true

-- "among prefixes that fit, the longest": each that fits is a beginning of it
pub record LongestThatFits (s taken : List ℕ) : Type 0 where
  pub fits_it : FitsName s taken
  pub begun : (p : List ℕ) → FitsName s p → prefix_of p taken ≡ true

-- the longest prefix that fits leads a name, its bytes kept and the space behind it passed; or none fits
abbrev pub LongestLeads : List ℕ → Prefix → Type 0
LongestLeads s (Leads size rest) = (taken : List ℕ) × LongestThatFits s taken × (size ≡ length taken) × (rest ≡ suc (length taken))
LongestLeads s Whole = (p : List ℕ) → FitsName s p → ⊥

-- the crate's rule: "prefixes in the order below", the first that fits (01, step 3, before ticket 5)
unfoldable pub first_fit : List (List ℕ) → List ℕ → Prefix
first_fit [] s = Whole
first_fit (p ∷ ps) s = pick (prefix_fits p s) (Leads (length p) (suc (length p))) (first_fit ps s)

unfoldable pub split_as_crate : List ℕ → Prefix
split_as_crate s = pick (prefix_of (100 ∷ 39 ∷ []) s) (Leads 1 2) (first_fit (prefixes_of Generic) s)

-- `de la `
abbrev pub de_la : List ℕ
de_la = 100 ∷ 101 ∷ 32 ∷ 108 ∷ 97 ∷ 32 ∷ []
