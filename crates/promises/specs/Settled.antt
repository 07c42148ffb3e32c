-- "For each input, refused ones too, a public function's statement allows one result and one content of the lent buffer" (01, What the statements have to settle).
-- Said of the contract itself: T is what a function takes and leaves, A what it asks of a caller (its `requires`), L what a caller learns (its `ensures`).
use Rattle.std.specs.Prelude.{◌≡◌}
use contract.Lifetimes.{Lfts}
use denote.Triple.Entry.{Args, Res}
use denote.Triple.Clauses.{Ended, Lasts, AtExit, at_exit}

module _ (T : Ended) where
  abbrev Asked : Type 1
  Asked = (κs : Lfts T.signature.lifetimes) → Args T.signature κs → Type 0

  abbrev Learnt : Type 1
  Learnt = (κs : Lfts T.signature.lifetimes) → Args T.signature κs → Res T.signature κs → AtExit T κs → Type 0

  -- whatever the arguments are, nothing is asked, and there is one result x and one content v of all that is lent to be written
  abbrev pub Settled : Asked → Learnt → Type 0
  Settled A L = (κs : Lfts T.signature.lifetimes) (a : Args T.signature κs) → A κs a × ((x y : Res T.signature κs) (v w : Lasts T κs a) → L κs a x (at_exit T κs a v) → L κs a y (at_exit T κs a w) → (x ≡ y) × (v ≡ w))

  -- the same of what is seen of result and content: for a function whose result is a part of what it was lent, and for what a promise leaves open
  abbrev pub SettledBy : {B : Type 0} → ((κs : Lfts T.signature.lifetimes) (a : Args T.signature κs) → Res T.signature κs → Lasts T κs a → B) → Asked → Learnt → Type 0
  SettledBy see A L = (κs : Lfts T.signature.lifetimes) (a : Args T.signature κs) → A κs a × ((x y : Res T.signature κs) (v w : Lasts T κs a) → L κs a x (at_exit T κs a v) → L κs a y (at_exit T κs a w) → see κs a x v ≡ see κs a y w)
