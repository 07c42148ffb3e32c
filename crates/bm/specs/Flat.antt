-- Answers as numbers, for C. An answer's numbers are the paper's: `numbers_in` of crate engine.
use Rattle.std.specs.Prelude.{◌≡◌, ℕ, Bool, true, false, List, eqb, ltb, length, get_or, set}
use Rattle.std.proofs.lemmas.List.Edits.{sets}
use Rattle.base.specs.Pick.{pick}
use Rattle.choices.specs.Texts.{Text}
use Rattle.pack.specs.Packs.{pack_of, verdict_of}
use Rattle.pack.specs.Numbers.{checked_numbers}
use Rattle.rule_lists.specs.Outcomes as loading
use Rattle.loader.specs.Loading as load
use Rattle.engine.specs.Calls.{CallOutcome, Numbers, numbers_in, filled_by}
use Rattle.engine.specs.Lines.{taken, BlockNumbers, block_by}
use Rattle.engine.specs.declared.call.Settings.{Settings}
use Rattle.engine.specs.declared.call.Start.{Start}
use Rattle.engine.specs.declared.call.Start.TheVariants.{Guessed, Given}

abbrev pub settings_of : ℕ → ℕ → ℕ → ℕ → Settings
settings_of t r c l = record { name_type = t; rule_type = r; concat = c; limit = l }

unfoldable pub start_of : ℕ → ℕ → ℕ → Start
start_of given kind bits = pick (eqb given 0) Guessed (Given kind bits)

unfoldable pub flag_bit : Bool → ℕ
flag_bit true = 1
flag_bit false = 0

-- place and flag of an answer in a tail
unfoldable pub numbered : Numbers → List ℕ → List ℕ
numbered n tail = set (set tail 0 n.place) 1 (flag_bit n.flag)

-- the promise of a call for C: its code, the content of the buffer, and the content of the tail
pub record SpellFlat (x : CallOutcome) (out out' tail tail' : List ℕ) (r : ℕ) : Type 0 where
  pub code : r ≡ pick (ltb (length tail) 2) 255 (numbers_in x (length out)).code
  pub buffer : out' ≡ pick (ltb (length tail) 2) out (filled_by x out)
  pub numbers : tail' ≡ pick (ltb (length tail) 2) tail (numbered (numbers_in x (length out)) tail)

-- the verdict on a pack: its number, and the place behind it, 0 where there is none
pub record CheckFlat (s tail tail' : List ℕ) (r : ℕ) : Type 0 where
  pub code : r ≡ pick (ltb (length tail) 1) 255 (get_or (checked_numbers (verdict_of (pack_of s))) 0 0)
  pub numbers : tail' ≡ pick (ltb (length tail) 1) tail (set tail 0 (get_or (checked_numbers (verdict_of (pack_of s))) 1 0))

-- how much was read and how much written, or 9 and the length needed: the two numbers of a block's answer in a tail
unfoldable pub blocked : BlockNumbers → List ℕ → List ℕ
blocked n tail = set (set tail 0 n.first) 1 n.second

pub record LinesFlat (call : Text → CallOutcome) (block out out' tail tail' : List ℕ) (r : ℕ) : Type 0 where
  pub code : r ≡ pick (ltb (length tail) 2) 255 (block_by call block (length out)).code
  pub buffer : out' ≡ pick (ltb (length tail) 2) out (sets out 0 (taken call block (length out)).text)
  pub numbers : tail' ≡ pick (ltb (length tail) 2) tail (blocked (block_by call block (length out)) tail)

-- place and file of a loading answer in a tail
unfoldable pub placed_tail : load.LoadNumbers → List ℕ → List ℕ
placed_tail n tail = set (set tail 0 n.place) 1 n.file

pub record LoadFlat (x : loading.Loading (List ℕ)) (out out' tail tail' : List ℕ) (r : ℕ) : Type 0 where
  pub code : r ≡ pick (ltb (length tail) 2) 255 (load.answer x (length out)).code
  pub buffer : out' ≡ pick (ltb (length tail) 2) out (load.filled x out)
  pub numbers : tail' ≡ pick (ltb (length tail) 2) tail (placed_tail (load.answer x (length out)) tail)
