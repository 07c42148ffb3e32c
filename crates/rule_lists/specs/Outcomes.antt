-- What loading a part comes to: its value, or the refusal with its line and file (01, What the desk gets).
use Rattle.std.specs.Prelude.{ℕ}
use Rattle.refusals.specs.declared.Refusal.{Refusal}

pub data Loading (A : Type 0) : Type 0 where
  fine : A → Loading A
  not_loaded : (why : Refusal) (line file : ℕ) → Loading A

-- what goes on where nothing was refused
unfoldable pub and_load : {A B : Type 0} → Loading A → (A → Loading B) → Loading B
and_load (fine a) k = k a
and_load (not_loaded c l f) k = not_loaded c l f
