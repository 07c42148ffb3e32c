-- Request 12, "Which order languages are narrowed in": its laws, each said once, of any operation on sets of languages.
use Rattle.std.specs.Prelude.{◌≡◌, ◌↔◌}
use mathlib.Core.List.{List, ◌∷◌, foldl, Memᴰ, Permᴰ}
use Rattle.languages.specs.declared.sets.LanguageSet.{LanguageSet}

abbrev pub Operation : Type 0
Operation = LanguageSet → LanguageSet → LanguageSet

-- "each is commutative"
abbrev pub Commutative : Operation → Type 0
Commutative op = (x y : LanguageSet) → op x y ≡ op y x

-- "associative"
abbrev pub Associative : Operation → Type 0
Associative op = (x y z : LanguageSet) → op (op x y) z ≡ op x (op y z)

-- "and gives back x for x with x"
abbrev pub Idempotent : Operation → Type 0
Idempotent op = (x : LanguageSet) → op x x ≡ x

-- "Any is neutral for narrowing, None for merging": on either side
abbrev pub Neutral : LanguageSet → Operation → Type 0
Neutral e op = (x : LanguageSet) → (op x e ≡ x) × (op e x ≡ x)

-- "each absorbs the other"
abbrev pub Absorbs : Operation → Operation → Type 0
Absorbs op other = (x y : LanguageSet) → op x (other x y) ≡ x

-- "narrowing spreads over merging"
abbrev pub SpreadsOver : Operation → Operation → Type 0
SpreadsOver op other = (x y z : LanguageSet) → op x (other y z) ≡ other (op x y) (op x z)

pub record Semilattice (op : Operation) : Type 0 where
  pub commutative : Commutative op
  pub associative : Associative op
  pub idempotent : Idempotent op

-- all of the request's laws together
pub record DistributiveLattice (meet join : Operation) (bottom top : LanguageSet) : Type 0 where
  pub meets : Semilattice meet
  pub joins : Semilattice join
  pub top_neutral : Neutral top meet
  pub bottom_neutral : Neutral bottom join
  pub meet_absorbs : Absorbs meet join
  pub join_absorbs : Absorbs join meet
  pub spreads : SpreadsOver meet join

-- "a sequence .. gives one set in whatever order it is done": `foldl op s xs` is s with each of xs, one after the other
pub record Orderless (op : Operation) : Type 0 where
  -- every rearrangement of a sequence
  pub any_order : (s : LanguageSet) {xs ys : List LanguageSet} → Permᴰ xs ys → foldl op s xs ≡ foldl op s ys
  -- what is done once more changes nothing
  pub twice_is_once : (s x : LanguageSet) (xs : List LanguageSet) → Memᴰ x xs → foldl op s (x ∷ xs) ≡ foldl op s xs
  -- so it is enough that the same sets stand in both, however often each
  pub same_sets : (s : LanguageSet) (xs ys : List LanguageSet) → ((x : LanguageSet) → Memᴰ x xs ↔ Memᴰ x ys) → foldl op s xs ≡ foldl op s ys
