-- What `load` writes is an accepted pack that holds what the definition says; and a promise of `load` allows one answer and one
-- content of the buffer. Assumes nothing.
use mathlib.Core.Path.{◌≡◌, refl, sym, ap, ◌∙◌}
use mathlib.Core.Bool.{true}
use mathlib.Core.List.{List, [], ◌∷◌}
use mathlib.Core.Logic.{⊎_elim}
use Prim.Native.Nat.{ℕ, zero, suc, ◌≤◌}
use native.Mathlib.Omega.{arith}
use lib.ListN.{length, take}
use lib.Seq.{sets, sets-eq, length-sets, take_at}
use borrow.Author.Tests.{leb-true, le-leb}
use Rattle.refusals.specs.declared.Refusal.{Refusal}
use Rattle.refusals.specs.Numbers.{number_of}
use Rattle.refusals.proofs.NumberLaws.{number_one, number_some}
use Rattle.base.proofs.Arms.{clash}
use Rattle.prefixes.specs.declared.prefixes.NameType.{NameType}
use Rattle.prefixes.specs.declared.prefixes.NameType.TheVariants.{Ashkenazi, Generic, Sephardic}
use Rattle.strings.specs.Reading.{Read, cut, got}
use Rattle.pack.specs.Packs.{Guess, Pack, accepted, pack_of, guesses_good, list_good, list_count}
use Rattle.rule_lines.specs.Rules.{Rule, rule_good}
use Rattle.pack_bytes.specs.Bytes.{names_bytes, pack_bytes}
use Rattle.pack_bytes.proofs.Laws.{packed}
use Rattle.bundles.specs.Bundles.{File, Found, missing, found, read_bundle}
use Rattle.rule_lists.specs.Outcomes as outcome
use Rattle.rule_lists.specs.Lists.{type_prefix, list_files, lists_of}
use Rattle.rule_lists.proofs.FileLaws.{list_good_lem}
use Rattle.loader.specs as specs
use specs.Guesses.{guesses_of}
use specs.Loading.{on_type, on_listed, names_of, guess_file, lists_in, pack_from, on_bundle, load_of, written, LoadNumbers, done_at, refused_at, loaded_numbers, answer, filled, AnswerIs, LoadIs}
use specs.declared.loading.Loaded.{Loaded}
use specs.declared.loading.Loaded.TheVariants.{Done, Refused}
use Rattle.loader.proofs as own
use own.FileLaws.{fine_is, then_fine, each_all}
use own.NameLaws.{strings_names}
use own.GuessLaws.{guesses_good_lem}
use own.LoadingLaws.{names_good_lem, lists_counted}
use Rattle.base.proofs.PickLaws.{pick_true, pick_inv, and_yes}
use Rattle.pack_bytes.specs.InnerContracts.{Each, none, more, GoodPack}

-- ---- no two answers have the same numbers, and so one answer and one content

not_done : {A : Type 0} (w : Refusal) (p f n : ℕ) → refused_at w p f ≡ done_at n → A
not_done w p f n e = let z : number_of w ≡ 0 = ap (λ (m : LoadNumbers). m.code) e in absurd (omega (arith, number_some w))

pub numbers_one : (x y : Loaded) → loaded_numbers x ≡ loaded_numbers y → x ≡ y
unfolding loaded_numbers
numbers_one (Done n) (Done m) e = ap Done (ap (λ (k : LoadNumbers). k.place) e)
numbers_one (Done n) (Refused w p f) e = not_done w p f n (sym e)
numbers_one (Refused w p f) (Done n) e = not_done w p f n e
numbers_one (Refused w p f) (Refused v q g) e =
    let why : w ≡ v = number_one w v (ap (λ (k : LoadNumbers). k.code) e) in
    let place : p ≡ q = ap (λ (k : LoadNumbers). k.place) e in
    let file : f ≡ g = ap (λ (k : LoadNumbers). k.file) e in
    cc

pub load_one : (ty : ℕ) (s : List ℕ) {out o o' : List ℕ} {r r' : Loaded} → LoadIs ty s out r o → LoadIs ty s out r' o' → (r ≡ r') × (o ≡ o')
load_one ty s x y = (numbers_one _ _ (x.result ∙ sym y.result), x.buffer ∙ sym y.buffer)

-- ---- the parts of a pack that was loaded

pub record PartsOf (kind : NameType) (fs : List File) (p : Pack) : Type 0 where
  pub names : names_of kind fs ≡ outcome.fine p.names
  pub guesses : guess_file kind fs (names_bytes p.names) ≡ outcome.fine p.guesses
  pub lists : lists_of (names_bytes p.names) fs (list_files (type_prefix kind) p.names) ≡ outcome.fine p.lists

parts_of_lem : (kind : NameType) (fs : List File) (p : Pack) → pack_from kind fs ≡ outcome.fine p → PartsOf kind fs p
unfolding pack_from lists_in
parts_of_lem kind fs p e =
    let a = then_fine _ _ p e in
    let b = then_fine _ _ p a.2 in
    let c = then_fine _ _ p b.2 in
    rw (← fine_is c.2) (record { names = a.1; guesses = b.1; lists = c.1 })

-- the type and the files that were loaded
pub record LoadedFrom (s : List ℕ) (p : Pack) : Type 0 where
  pub kind : NameType
  pub files : List File
  pub rest : List ℕ
  pub read : read_bundle s ≡ got files rest
  pub parts : PartsOf kind files p

good_bundle : (kind : NameType) (s : List ℕ) (p : Pack) (x : Read (List File)) → read_bundle s ≡ x → on_bundle x (pack_from kind) ≡ outcome.fine p
    → LoadedFrom s p
unfolding on_bundle
good_bundle kind s p cut r e = clash (cc)
good_bundle kind s p (got fs q) r e =
    ⊎_elim (λ w. record { kind = kind; files = fs; rest = q; read = r; parts = parts_of_lem kind fs p w.1 }) (λ w. clash (cc w.1)) (pick_inv _ _ _ _ e)

loaded_from : (ty : ℕ) (s : List ℕ) (p : Pack) → load_of ty s ≡ outcome.fine p → LoadedFrom s p
unfolding load_of on_type
loaded_from zero s p e = good_bundle Ashkenazi s p _ refl e
loaded_from (suc zero) s p e = good_bundle Generic s p _ refl e
loaded_from (suc (suc zero)) s p e = good_bundle Sephardic s p _ refl e
loaded_from (suc (suc (suc n))) s p e = clash (cc)

-- ---- they are good

lists_good : (names : List ℕ) (fs : List File) (ws : List (List ℕ)) (ls : List (List Rule)) → lists_of names fs ws ≡ outcome.fine ls
    → Each (λ rs. list_good names rs ≡ true) ls
unfolding lists_of list_good
lists_good names fs [] ls e = rw (← fine_is e) none
lists_good names fs (w ∷ ws) ls e =
    let a = then_fine _ _ ls e in
    let b = then_fine _ _ ls a.2 in
    let g = list_good_lem names fs w a.0 a.1 in
    rw (← fine_is b.2) (more (and_yes _ _ (le-leb _ _ g.few) (and_yes _ _ (each_all (rule_good names) g.each) g.order)) (lists_good names fs ws b.0 b.1))

found_guesses : (xs : List (List ℕ)) (gs : List Guess) (x : Found) → on_listed x (guesses_of (names_bytes xs)) ≡ outcome.fine gs
    → guesses_good (length xs) gs ≡ true
unfolding on_listed
found_guesses xs gs missing e = clash (cc)
found_guesses xs gs (found f s) e = guesses_good_lem (names_bytes xs) xs (strings_names xs) f s gs e

good_pack : (kind : NameType) (fs : List File) (p : Pack) → PartsOf kind fs p → GoodPack p
unfolding guess_file list_count
good_pack kind fs p x = record {
  names = names_good_lem kind fs p.names x.names;
  guesses = found_guesses p.names p.guesses _ x.guesses;
  counted = lists_counted kind fs p.names p.lists x.lists;
  lists = lists_good (names_bytes p.names) fs _ p.lists x.lists;
}

-- ---- what was written

-- the answer told done: what was loaded, and that it stands at the front of the buffer
pub record Written (ty : ℕ) (s : List ℕ) (n : ℕ) (out' : List ℕ) : Type 0 where
  pub it : Pack
  pub loads : load_of ty s ≡ outcome.fine it
  pub front : take n out' ≡ pack_bytes it
  pub accepts : pack_of (take n out') ≡ accepted it

done_inv : (b : List ℕ) (n m : ℕ) → done_at n ≡ answer (outcome.fine b) m → (length b ≡ n) × (length b ≤ m)
unfolding answer
done_inv b n m e =
    ⊎_elim (λ w. (ap (λ (k : LoadNumbers). k.place) w.1, leb-true _ _ w.0)) (λ w. not_done _ _ _ n w.1) (pick_inv _ _ _ _ (sym e))

filled_is : (b out out' : List ℕ) → out' ≡ filled (outcome.fine b) out → length b ≤ length out → out' ≡ sets out 0 b
unfolding filled
filled_is b out out' e h = e ∙ pick_true _ _ _ (le-leb _ _ h)

fits : (b out out' : List ℕ) (n : ℕ) → done_at n ≡ answer (outcome.fine b) (length out) → out' ≡ filled (outcome.fine b) out → take n out' ≡ b
fits b out out' n r h =
    let i = done_inv b n (length out) r in
    rw (filled_is b out out' h i.1, sets-eq b out 0 (omega (arith, i.1))) (take_at b _ n i.0)

written_by : (ty : ℕ) (s out out' : List ℕ) (n : ℕ) (x : outcome.Loading Pack) → load_of ty s ≡ x → AnswerIs (written x) out (Done n) out'
    → Written ty s n out'
unfolding written answer loaded_numbers
written_by ty s out out' n (outcome.fine p) e a =
    let f : take n out' ≡ pack_bytes p = fits (pack_bytes p) out out' n a.result a.buffer in
    let v = loaded_from ty s p e in
    record { it = p; loads = e; front = f; accepts = rw f (packed p (good_pack v.kind v.files p v.parts)) }
written_by ty s out out' n (outcome.not_loaded c l f) e a = not_done c l f n (sym a.result)

-- THE LAW: what `load` leaves where it is done is an accepted pack, and it is the definition's
pub load_accepted : (ty : ℕ) (s out out' : List ℕ) (n : ℕ) → LoadIs ty s out (Done n) out' → Written ty s n out'
load_accepted ty s out out' n a = written_by ty s out out' n (load_of ty s) refl a

-- for a program that takes the pack out of its buffer
within_by : (x : outcome.Loading (List ℕ)) (out out' : List ℕ) (n : ℕ) → AnswerIs x out (Done n) out' → n ≤ length out'
unfolding answer loaded_numbers
within_by (outcome.not_loaded c l f) out out' n a = not_done c l f n (sym a.result)
within_by (outcome.fine b) out out' n a =
    let i = done_inv b n (length out) a.result in
    let size : length out' ≡ length out = ap length (filled_is b out out' a.buffer i.1) ∙ length-sets out 0 b in
    omega (arith, i.0, i.1)

pub load_within : (ty : ℕ) (s out out' : List ℕ) (n : ℕ) (r : Loaded) → LoadIs ty s out r out' → r ≡ Done n → n ≤ length out'
load_within ty s out out' n r a e = within_by (written (load_of ty s)) out out' n (rw (← e) a)
