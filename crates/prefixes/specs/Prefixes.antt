-- Prefixes (01, Spelling a name, step 3, and "Prefixes"; 02, ticket 5).
use Rattle.std.specs.Prelude.{ℕ, suc, max, Bool, true, false, List, [], ◌∷◌, length, drop}
use Rattle.base.specs.Pick.{pick, and}
use Rattle.letters.specs.Order.{same_text}
use Rattle.texts.specs.Parts.{prefix_of, first_is}
use Rattle.prefixes.specs.declared.prefixes.NameType.{NameType}
use Rattle.prefixes.specs.declared.prefixes.NameType.TheVariants.{Ashkenazi, Generic, Sephardic}
use Rattle.prefixes.specs.declared.prefixes.Prefix.{Prefix}
use Rattle.prefixes.specs.declared.prefixes.Prefix.TheVariants.{Leads, Whole}

-- bar ben da de van von
abbrev pub ashkenazi : List (List ℕ)
ashkenazi = (98 ∷ 97 ∷ 114 ∷ []) ∷ (98 ∷ 101 ∷ 110 ∷ []) ∷ (100 ∷ 97 ∷ []) ∷ (100 ∷ 101 ∷ []) ∷ (118 ∷ 97 ∷ 110 ∷ []) ∷ (118 ∷ 111 ∷ 110 ∷ []) ∷ []

-- da dal de `de la` del dela della des di do dos du van von
abbrev pub generic : List (List ℕ)
generic = (100 ∷ 97 ∷ []) ∷ (100 ∷ 97 ∷ 108 ∷ []) ∷ (100 ∷ 101 ∷ []) ∷ (100 ∷ 101 ∷ 32 ∷ 108 ∷ 97 ∷ []) ∷ (100 ∷ 101 ∷ 108 ∷ []) ∷ (100 ∷ 101 ∷ 108 ∷ 97 ∷ []) ∷ (100 ∷ 101 ∷ 108 ∷ 108 ∷ 97 ∷ []) ∷ (100 ∷ 101 ∷ 115 ∷ []) ∷ (100 ∷ 105 ∷ []) ∷ (100 ∷ 111 ∷ []) ∷ (100 ∷ 111 ∷ 115 ∷ []) ∷ (100 ∷ 117 ∷ []) ∷ (118 ∷ 97 ∷ 110 ∷ []) ∷ (118 ∷ 111 ∷ 110 ∷ []) ∷ []

-- al el and Generic's
abbrev pub sephardic : List (List ℕ)
sephardic = (97 ∷ 108 ∷ []) ∷ (101 ∷ 108 ∷ []) ∷ generic

-- in the stated order
unfoldable pub prefixes_of : NameType → List (List ℕ)
prefixes_of Ashkenazi = ashkenazi
prefixes_of Generic = generic
prefixes_of Sephardic = sephardic

-- s starts with p and a space
unfoldable pub prefix_fits : List ℕ → List ℕ → Bool
prefix_fits p s = and (prefix_of p s) (first_is 32 (drop (length p) s))

-- those of some texts that pass a test
unfoldable pub filtered : (List ℕ → Bool) → List (List ℕ) → List (List ℕ)
filtered f [] = []
filtered f (p ∷ ps) = pick (f p) (p ∷ filtered f ps) (filtered f ps)

-- "prefixes that fit"
unfoldable pub that_fit : List (List ℕ) → List ℕ → List (List ℕ)
that_fit ps s = filtered (λ (p : List ℕ). prefix_fits p s) ps

-- how long the longest of some texts is
unfoldable pub longest : List (List ℕ) → ℕ
longest [] = 0
longest (p ∷ ps) = max (length p) (longest ps)

-- a name led by the longest of some prefixes: its bytes are kept, and the space behind it is passed too; by none, the name is one whole
unfoldable pub led_by : List (List ℕ) → Prefix
led_by [] = Whole
led_by (p ∷ ps) = Leads (longest (p ∷ ps)) (suc (longest (p ∷ ps)))

-- "if it starts with `d'`" (01, step 3), or else "among prefixes that fit, the longest is taken" (02, ticket 5)
unfoldable pub split_of : List ℕ → Prefix
split_of s = pick (prefix_of (100 ∷ 39 ∷ []) s) (Leads 1 2) (led_by (that_fit (prefixes_of Generic) s))

unfoldable pub among : List (List ℕ) → List ℕ → Bool
among [] w = false
among (p ∷ ps) w = pick (same_text p w) true (among ps w)

-- "words that equal a prefix"
unfoldable pub is_prefix : NameType → List ℕ → Bool
is_prefix kind w = among (prefixes_of kind) w
