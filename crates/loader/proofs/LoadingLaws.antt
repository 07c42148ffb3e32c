-- A bundle loaded: the type's number and files, the guessing rules behind their count, then names, guessing rules and lists one after
-- the other, measured and then written. Assumes nothing.
use Rattle.bundles.specs.PlaceContracts.{file_span}
use Rattle.bundles.specs.declared.FileAt.{FileAt}
use mathlib.Core.Path.{◌≡◌, refl, sym, ap, ◌∙◌}
use mathlib.Core.Bool.{true, false}
use mathlib.Core.List.{List, [], ◌∷◌, ◌++◌}
use Prim.Native.Nat.{ℕ, zero, suc, ◌+◌, ◌-◌, ◌*◌, ◌≤◌, ◌<◌, min}
use native.Mathlib.Nat.{sub-zero}
use native.Mathlib.Omega.{arith}
use borrow.Author.Rules.{rules}
use lib.Dec.{leb}
use lib.ListN.{length, take, drop, length-take, set, length-append}
use borrow.Author.Tests.{leb-true, le-leb, lt-leb}
use Rattle.refusals.specs.declared.Refusal.{Refusal}
use Rattle.refusals.specs.declared.Refusal.TheVariants.{SettingUnknown, NoRoom, BundleBroken, FileMissing, TooMuch}
use Rattle.strings.specs.Reading.{strings_of, Read, cut, got}
use Rattle.writing.specs.InnerContracts.{Put}
use Rattle.writing.proofs.Laws.{put_then, put_long, put_place, put_fits}
use Rattle.base.proofs.Arms.{clash}
use Rattle.prefixes.specs.declared.prefixes.NameType.{NameType}
use Rattle.prefixes.specs.declared.prefixes.NameType.TheVariants.{Ashkenazi, Generic, Sephardic}
use Rattle.pack.specs.Packs.{Guess, Pack, names_good}
use Rattle.rule_lines.specs.Rules.{Rule}
use Rattle.pack_bytes.specs.Bytes.{names_bytes, list_bytes, pack_bytes, count_bytes}
use Rattle.bundles.specs as bundles
use bundles.Bundles.{File, Found, missing, found, read_bundle, well_formed, file_named}
use bundles.PlaceContracts.{file_at, file_numbers}
use Rattle.bundles.proofs.Laws.{found_is, found_order, found_within, missing_is, files_read}
use Rattle.rule_lists.specs as rule_lists
use rule_lists.Outcomes.{Loading, fine, not_loaded, and_load}
use rule_lists.Lists.{type_prefix, two_of, three_of, list_files, lists_of}
use Rattle.rule_lists.proofs.ListLaws.{lists_length}
use rule_lists.declared.list_writing.Written.{Written}
use rule_lists.declared.list_writing.Written.TheVariants as wrote
use Rattle.loader.specs as specs
use specs.Languages.{languages_of}
use specs.Loading.{on_type, languages_part, on_listed, names_of, guess_file, lists_in, pack_from, on_bundle, load_of, written, done_at, refused_at, loaded_numbers, answer, filled, AnswerIs, lang_part}
use specs.InnerContracts.{name_list, guess_part, NamesRead, type_numbered, guesses_bytes, packed_of, GuessesWritten, GuessesAre}
use Rattle.loader.proofs.NameLaws.{strings_names}
use Rattle.loader.proofs.LanguageLaws.{languages_good}
use Rattle.std.specs.Prelude.{Option, Some, None, Result, Ok, Err}
use Rattle.rule_lists.specs.declared.refused.Refused as why
use Rattle.rule_lists.specs.InnerContracts.{refusal_at}
use specs.declared.loading.Loaded.{Loaded}
use specs.declared.loading.Loaded.TheVariants as loaded
use specs.declared.language_list.NameList.{NameList}
use Rattle.base.proofs.PickLaws.{pick_true, pick_false, and_inv, tests}
use Rattle.held.specs.Met.{bytes_of_all}
use bundles.InnerContracts.{files_of}
use rule_lists.InnerContracts.{WritesTo, WrittenIs}
use lib.Seq.{sets, set-set, set_comm}
use specs.Guesses.{guesses_in, counted_guesses, guesses_of}
use specs.declared.guesses.GuessPart.{GuessPart}

-- ---- the type's number

pub kind_ashkenazi : (n : ℕ) → n ≡ 0 → Some Ashkenazi ≡ type_numbered n
unfolding type_numbered on_type
kind_ashkenazi n e = rw e refl

pub kind_generic : (n : ℕ) → n ≡ 1 → Some Generic ≡ type_numbered n
unfolding type_numbered on_type
kind_generic n e = rw e refl

pub kind_sephardic : (n : ℕ) → n ≡ 2 → Some Sephardic ≡ type_numbered n
unfolding type_numbered on_type
kind_sephardic n e = rw e refl

pub kind_unknown : (n : ℕ) → (n ≡ 0 → ⊥) → (n ≡ 1 → ⊥) → (n ≡ 2 → ⊥) → None ≡ type_numbered n
unfolding type_numbered on_type
kind_unknown zero a b c = absurd (a refl)
kind_unknown (suc zero) a b c = absurd (b refl)
kind_unknown (suc (suc zero)) a b c = absurd (c refl)
kind_unknown (suc (suc (suc n))) a b c = refl

pub ruleset types = (rules, kind_ashkenazi, kind_generic, kind_sephardic, kind_unknown)

-- ---- a type's file, by its whole name

module _ (kind : NameType) (part s : List ℕ) (r : Option FileAt) where
  abbrev FileIs : List ℕ → Type 0
  FileIs name = file_numbers r ≡ file_at s name

  pub file_is : (k : NameType) → kind ≡ k → FileIs (type_prefix k ++ part) → FileIs (type_prefix kind ++ part)
  file_is k e w = rw e w

-- ---- the guessing file: room for the count, the rules, and then the count

set_past : (vs l : List ℕ) (i j b : ℕ) → i < j → set (sets l j vs) i b ≡ sets (set l i b) j vs
set_past [] l i j b h = refl
set_past (v ∷ vs) l i j b h =
    set_past vs (set l j v) i (suc j) b (omega arith) ∙ ap (λ (m : List ℕ). sets m (suc j) vs) (set_comm l j i v b (λ e. omega arith))

sets_over : (vs ts us l : List ℕ) (i : ℕ) → length vs ≡ length ts → sets (sets l i (ts ++ us)) i vs ≡ sets l i (vs ++ us)
sets_over [] [] us l i h = refl
sets_over [] (t ∷ ts) us l i h = absurd (omega arith)
sets_over (v ∷ vs) [] us l i h = absurd (omega arith)
sets_over (v ∷ vs) (t ∷ ts) us l i h =
    ap (λ (m : List ℕ). sets m (suc i) vs) (set_past (ts ++ us) (set l i t) i (suc i) v (omega arith) ∙ ap (λ (m : List ℕ). sets m (suc i) (ts ++ us)) (set-set l i t v))
    ∙ sets_over vs ts us (set l i v) (suc i) (omega arith)

-- one text and another, and then the first place written over
put_over : {o o₁ o₂ o₃ : List ℕ} {at p q r : ℕ} {t u v : List ℕ} → Put o o₁ at p t → Put o₁ o₂ p q u → Put o₂ o₃ at r v → length v ≡ length t
    → Put o o₃ at q (v ++ u)
put_over {o} {at = at} {t = t} {u = u} {v = v} x y z h =
    let w = put_then x y in
    record { wrote = z.wrote ∙ rw w.wrote (sets_over v t u o at h); ends = omega (arith, w.ends, length-append t u, length-append v u); room = x.room }

module _ (o o₁ o₂ : List ℕ) (at i n p : ℕ) where
  counted_done : (x : Loading (List Guess)) (o₃ : List ℕ) (r : ℕ) → Put o o₁ at i (count_bytes 0) → GuessesWritten 0 x o₁ i (Ok (guess_part n p)) o₂ → n ≤ 4096
      → Put o₂ o₃ at r (count_bytes n) → WritesTo guesses_bytes (and_load x counted_guesses) o o₃ at (Ok p)
  unfolding GuessesWritten and_load counted_guesses WritesTo guesses_bytes count_bytes
  counted_done (fine gs) o₃ r c (q, e, w) h d =
      let is : guess_part n p ≡ guess_part (0 + length gs) q = cc in
      let size : n ≡ length gs = omega (arith, ap (λ (g : GuessPart). g.count) is) in
      let place : q ≡ p = sym (ap (λ (g : GuessPart). g.end) is) in
      rw (pick_true _ (fine gs) (not_loaded TooMuch 0 0) (le-leb _ _ (rw size at h))) (p, refl, put_over c (rw place at w) (rw size at d) refl)
  counted_done (not_loaded c l f) o₃ r x e h d = clash (cc)

  counted_many : (x : Loading (List Guess)) → GuessesWritten 0 x o₁ i (Ok (guess_part n p)) o₂ → 4096 < n
      → WritesTo guesses_bytes (and_load x counted_guesses) o o₂ at (Err (refusal_at TooMuch 0 0))
  unfolding GuessesWritten and_load counted_guesses WritesTo
  counted_many (fine gs) (q, e, w) h =
      let is : guess_part n p ≡ guess_part (0 + length gs) q = cc in
      let same : n ≡ 0 + length gs = ap (λ (g : GuessPart). g.count) is in
      rw (pick_false _ (fine gs) (not_loaded TooMuch 0 0) (lt-leb (length gs) 4096 (omega arith))) refl
  counted_many (not_loaded c l f) e h = clash (cc)

  counted_refused : (x : Loading (List Guess)) (c : Refusal) → GuessesWritten 0 x o₁ i (Err (refusal_at c n p)) o₂
      → WritesTo guesses_bytes (and_load x counted_guesses) o o₂ at (Err (refusal_at c n p))
  unfolding GuessesWritten and_load WritesTo
  counted_refused (fine gs) c (q, e, w) = clash (cc)
  counted_refused (not_loaded d m g) c e =
      let is : refusal_at c n p ≡ refusal_at d m g = cc in
      ap (λ (r : why.Refused). Err r) is

module _ (kind : NameType) (s : List ℕ) (x : Option FileAt) (e : file_numbers x ≡ file_at s (type_prefix kind ++ lang_part)) (names o : List ℕ) (at : ℕ) where
  abbrev Wrote : List ℕ → Result ℕ why.Refused → Type 0
  Wrote o' r = WritesTo guesses_bytes (guess_file kind (files_of s) names) o o' at r

  pub load_missing : x ≡ None → Wrote o (Err (refusal_at FileMissing 0 0))
  unfolding guess_file on_listed WritesTo
  load_missing q = rw (missing_is s _ x e q) refl

  module _ (whole : FileAt) (q : x ≡ Some whole) where
    module _ (o₁ o₂ : List ℕ) (i : ℕ) (g : Result GuessPart why.Refused) (c : Put o o₁ at i (count_bytes 0)) (w : GuessesAre names (take (whole.end - whole.start) (drop whole.start s)) whole.number o₁ i g o₂) where
      abbrev in_file : Loading (List Guess)
      in_file = guesses_in names whole.number (take (whole.end - whole.start) (drop whole.start s))

      is_file : and_load in_file counted_guesses ≡ guess_file kind (files_of s) names
      unfolding guess_file on_listed guesses_of
      is_file = rw (found_is s _ x e whole q) refl

      comes : (y : Result GuessPart why.Refused) → g ≡ y → GuessesWritten 0 in_file o₁ i y o₂
      unfolding GuessesAre
      comes y z = rw z at w

      pub load_refused : (c : why.Refused) → g ≡ Err c → Wrote o₂ (Err c)
      load_refused c z = rw (← is_file) (counted_refused o o₁ o₂ at i c.line c.file in_file c.why (comes _ z))

      module _ (part : GuessPart) (z : g ≡ Ok part) where
        pub load_many : 4096 < part.count → Wrote o₂ (Err (refusal_at TooMuch 0 0))
        load_many h = rw (← is_file) (counted_many o o₁ o₂ at i part.count part.end in_file (comes _ z) h)

        pub load_done : (o₃ : List ℕ) (r : ℕ) → part.count ≤ 4096 → Put o₂ o₃ at r (count_bytes part.count) → Wrote o₃ (Ok part.end)
        load_done o₃ r h d = rw (← is_file) (counted_done o o₁ o₂ at i part.count part.end in_file o₃ r c (comes _ z) h d)

pub ruleset guessed_laws = (load_missing, found_order, found_within, load_refused, load_done, load_many, put_place, rules)

-- ---- the language list

module _ (kind : NameType) (s : List ℕ) (e : Option FileAt) (w : file_numbers e ≡ file_at s (type_prefix kind ++ languages_part)) where
  pub names_found : (whole : FileAt) (out' : List ℕ) (r : Result NameList why.Refused) → e ≡ Some whole → NamesRead (languages_of whole.number (take (whole.end - whole.start) (drop whole.start s))) r out'
      → NamesRead (names_of kind (files_of s)) r out'
  unfolding names_of on_listed
  names_found whole out' r h x = rw (found_is s _ e w whole h) x

  pub names_missing : (out' : List ℕ) → e ≡ None → NamesRead (names_of kind (files_of s)) (Err (refusal_at FileMissing 0 0)) out'
  unfolding NamesRead names_of on_listed
  names_missing out' h = rw (missing_is s _ e w h) refl

-- ---- what was told, backwards

-- a part that is told done was fine, and is written
pub record WasFine {A : Type 0} (bytes : A → List ℕ) (x : Loading A) (o o' : List ℕ) (at p : ℕ) : Type 0 where
  pub it : A
  pub is : x ≡ fine it
  pub put : Put o o' at p (bytes it)

module _ {A : Type 0} (bytes : A → List ℕ) (o o' : List ℕ) (at : ℕ) (r : Result ℕ why.Refused) where
  pub was_fine : (x : Loading A) (p : ℕ) → WritesTo bytes x o o' at r → r ≡ Ok p → WasFine bytes x o o' at p
  unfolding WritesTo
  was_fine (fine a) p (q, e, w) h = let i : q ≡ p = cc in record { it = a; is = refl; put = rw (← i) w }
  was_fine (not_loaded c l f) p e h = clash (cc)

  -- what is fine is written
  is_written : (x : Loading A) (a : A) → x ≡ fine a → WritesTo bytes x o o' at r → (p : ℕ) × Put o o' at p (bytes a)
  unfolding WritesTo
  is_written (fine b) a h (p, e, w) = let i : b ≡ a = cc in (p, rw (← i) w)
  is_written (not_loaded c l f) a h e = clash (cc)

  pub was_refused : (x : Loading A) (c : Refusal) (l f : ℕ) → WritesTo bytes x o o' at r → r ≡ Err (refusal_at c l f) → x ≡ not_loaded c l f
  unfolding WritesTo
  was_refused (fine a) c l f (q, e, w) h = clash (cc)
  was_refused (not_loaded a b d) c l f e h =
      let is : refusal_at a b d ≡ refusal_at c l f = cc in
      ap (λ (r : why.Refused). not_loaded r.why r.line r.file) is

-- the same for names
pub record WasNamed (x : Loading (List (List ℕ))) (out' : List ℕ) (n len : ℕ) : Type 0 where
  pub it : List (List ℕ)
  pub is : x ≡ fine it
  pub count : n ≡ length it
  pub size : len ≡ length (names_bytes it)
  pub front : take len out' ≡ names_bytes it

module _ (out' : List ℕ) (r : Result NameList why.Refused) where
  was_named : (x : Loading (List (List ℕ))) (n len : ℕ) → NamesRead x r out' → r ≡ Ok (name_list n len) → WasNamed x out' n len
  unfolding NamesRead
  was_named (fine xs) n len (e, w) h =
      let is : name_list n len ≡ name_list (length xs) (length (names_bytes xs)) = cc in
      let i : len ≡ length (names_bytes xs) = ap (λ (l : NameList). l.len) is in
      record { it = xs; is = refl; count = ap (λ (l : NameList). l.count) is; size = i; front = rw i w }
  was_named (not_loaded c l f) n len e h = clash (cc)

  not_named : (x : Loading (List (List ℕ))) (c : Refusal) (l f : ℕ) → NamesRead x r out' → r ≡ Err (refusal_at c l f) → x ≡ not_loaded c l f
  unfolding NamesRead
  not_named (fine xs) c l f (e, w) h = clash (cc)
  not_named (not_loaded a b d) c l f e h =
      let is : refusal_at a b d ≡ refusal_at c l f = cc in
      ap (λ (r : why.Refused). not_loaded r.why r.line r.file) is

-- ---- the pack, written one part after the other

abbrev Same : List ℕ → List ℕ
Same bytes = bytes

module _ (kind : NameType) (fs : List File) (names : List ℕ) (n : ℕ) where
  abbrev Lists : Loading (List (List Rule))
  Lists = lists_of names fs (list_files (type_prefix kind) (strings_of names))

  lists_then : (o o₁ o₂ o₃ : List ℕ) (q at t : ℕ) (gs : List Guess) → Put o o₁ 0 q (n ∷ names) → Put o₁ o₂ q at (guesses_bytes gs) → (o₄ : List ℕ)
      → Put o₂ o₄ at t ((3 * n + 2) ∷ [])
      → (x : Loading (List (List Rule))) (r : Result ℕ why.Refused) → WritesTo (bytes_of_all list_bytes) x o₄ o₃ t r
      → WritesTo Same (and_load x (λ ls. fine ((n ∷ names) ++ (guesses_bytes gs ++ ((3 * n + 2) ∷ bytes_of_all list_bytes ls))))) o o₃ 0 r
  unfolding WritesTo and_load
  lists_then o o₁ o₂ o₃ q at t gs a b o₄ c (fine ls) r (p, e, w) = (p, e, put_then a (put_then b (put_then c w)))
  lists_then o o₁ o₂ o₃ q at t gs a b o₄ c (not_loaded w l f) r e = e

  -- the lists, as the public function tells them
  by_done : (x : Loading (List (List Rule))) (o o' : List ℕ) (t at : ℕ) → WrittenIs (bytes_of_all list_bytes) x o o' t (wrote.Done at) → WritesTo (bytes_of_all list_bytes) x o o' t (Ok at)
  unfolding WritesTo WrittenIs
  by_done (fine ls) o o' t at (p, e, w) = let i : at ≡ p = cc in (p, ap (λ (k : ℕ). Ok k) i, w)
  by_done (not_loaded c l f) o o' t at e = clash (cc)

  by_refused : (x : Loading (List (List Rule))) (o o' : List ℕ) (t : ℕ) (c : Refusal) (l f : ℕ) → WrittenIs (bytes_of_all list_bytes) x o o' t (wrote.Refused c l f)
      → WritesTo (bytes_of_all list_bytes) x o o' t (Err (refusal_at c l f))
  unfolding WritesTo WrittenIs
  by_refused (fine ls) o o' t c l f (p, e, w) = clash (cc)
  by_refused (not_loaded d m g) o o' t c l f e =
      let i : c ≡ d = cc in
      let j : l ≡ m = cc in
      let k : f ≡ g = cc in
      rw (i, j, k) refl

  module _ (o o₁ o₂ o₃ : List ℕ) (q : ℕ) (x : Result ℕ why.Refused) (told : WritesTo guesses_bytes (guess_file kind fs names) o₂ o₃ q x) where
    module _ (p at t : ℕ) (o₄ o₅ : List ℕ) (r : Written) (a : Put o o₁ 0 p (n ∷ [])) (b : Put o₁ o₂ p q names) (h : x ≡ Ok at) (c : Put o₃ o₄ at t ((3 * n + 2) ∷ []))
        (lists : WrittenIs (bytes_of_all list_bytes) Lists o₄ o₅ t r) where
      packed_by : (y : Result ℕ why.Refused) → WritesTo (bytes_of_all list_bytes) Lists o₄ o₅ t y → WritesTo Same (packed_of kind fs names n) o o₅ 0 y
      unfolding packed_of and_load
      packed_by y v =
          let w = was_fine guesses_bytes o₂ o₃ q x (guess_file kind fs names) at told h in
          rw w.is (lists_then o o₂ o₃ o₅ q at t w.it (put_then a b) w.put o₄ c Lists y v)

      pub packed_lists : (e : ℕ) → r ≡ wrote.Done e → WritesTo Same (packed_of kind fs names n) o o₅ 0 (Ok e)
      packed_lists e i = packed_by _ (by_done Lists o₄ o₅ t e (rw i at lists))

      pub packed_stop : (d : Refusal) (l f : ℕ) → r ≡ wrote.Refused d l f → WritesTo Same (packed_of kind fs names n) o o₅ 0 (Err (refusal_at d l f))
      packed_stop d l f i = packed_by _ (by_refused Lists o₄ o₅ t d l f (rw i at lists))

    pub packed_refused : (c : why.Refused) → x ≡ Err c → WritesTo Same (packed_of kind fs names n) o o₃ 0 (Err c)
    unfolding packed_of and_load WritesTo
    packed_refused c h = rw (was_refused guesses_bytes o₂ o₃ q x (guess_file kind fs names) c.why c.line c.file told h) refl

-- ---- measured, and then written

module _ (x : Loading (List ℕ)) (o o' : List ℕ) (w : Result ℕ why.Refused) (m : WritesTo Same x o o' 0 w) where
  pub answer_long : (n k : ℕ) (out : List ℕ) → w ≡ Ok n → length out < n → k ≡ min n 4294967295
      → AnswerIs x out (loaded.Refused NoRoom k 0) out
  unfolding answer filled loaded_numbers
  answer_long n k out h l e =
      let v = was_fine Same o o' 0 w x n m h in
      let z = v.put.ends in
      let t : leb (length v.it) (length out) ≡ false = lt-leb (length v.it) (length out) (omega (arith, z)) in
      record {
        result = rw v.is (sym (pick_false _ _ _ t ∙ ap (λ (a : ℕ). refused_at NoRoom a 0) (omega (arith, z, e))));
        buffer = rw v.is (sym (pick_false _ _ _ t));
      }

  pub answer_refused : (c : why.Refused) (out : List ℕ) → w ≡ Err c → AnswerIs x out (loaded.Refused c.why c.line c.file) out
  unfolding answer filled loaded_numbers
  answer_refused c out h = rw (was_refused Same o o' 0 w x c.why c.line c.file m h) (record { result = refl; buffer = refl })

  -- the bytes of the pack, put where they fit
  module _ (n : ℕ) (out out' : List ℕ) (h : w ≡ Ok n) (l : n ≤ length out) where
    fine_is : WasFine Same x o o' 0 n
    fine_is = was_fine Same o o' 0 w x n m h

    done_by : (e : ℕ) → Put out out' 0 e fine_is.it → AnswerIs x out (loaded.Done n) out'
    unfolding answer filled loaded_numbers
    done_by e u =
        let v = fine_is in
        let s : n ≡ length v.it = omega (arith, v.put.ends, u.room) in
        let t : leb (length v.it) (length out) ≡ true = le-leb (length v.it) (length out) (omega arith) in
        record {
          result = rw v.is (ap (λ (a : ℕ). done_at a) s ∙ sym (pick_true _ _ _ t));
          buffer = rw v.is (u.wrote ∙ sym (pick_true _ _ _ t));
        }

    pub answer_done : (w' : Result ℕ why.Refused) → WritesTo Same x out out' 0 w' → AnswerIs x out (loaded.Done n) out'
    answer_done w' told = let v = fine_is in done_by _ (is_written Same out out' 0 w' x v.it v.is told).1

    pub answer_copied : (e : ℕ) → n ≤ length o' → Put out out' 0 e (take (n - 0) (drop 0 o')) → AnswerIs x out (loaded.Done n) out'
    answer_copied e k u =
        let v = fine_is in
        let z : n - 0 ≡ n = omega arith in
        let f = put_fits v.put (omega (arith, v.put.ends, v.put.room, put_long _ _ _ _ _ v.put)) in
        done_by e (rw (z, f.1) at u)

-- ---- the names, the guessing rules, and the pack

refused_is : (o : Loading Pack) (c : Refusal) (l f : ℕ) (out : List ℕ) → o ≡ not_loaded c l f → AnswerIs (written o) out (loaded.Refused c l f) out
unfolding written answer filled loaded_numbers
refused_is o c l f out e = rw e (record { result = refl; buffer = refl })

-- the bytes are those of the pack, where there are as many lists as there should be
parts_packed : (xs : List (List ℕ)) (y : Loading (List Guess)) (z : Loading (List (List Rule)))
    → ((ls : List (List Rule)) → z ≡ fine ls → length ls ≡ 3 * length xs + 2)
    → and_load y (λ gs. and_load z (λ ls. fine ((length xs ∷ names_bytes xs) ++ (guesses_bytes gs ++ ((3 * length xs + 2) ∷ bytes_of_all list_bytes ls)))))
    ≡ written (and_load y (λ gs. and_load z (λ ls. fine (record { names = xs; guesses = gs; lists = ls }))))
unfolding and_load written pack_bytes guesses_bytes
parts_packed xs (fine gs) (fine ls) n =
    ap (λ (k : ℕ). fine ((length xs ∷ names_bytes xs) ++ (guesses_bytes gs ++ (k ∷ bytes_of_all list_bytes ls)))) (sym (n ls refl))
parts_packed xs (fine gs) (not_loaded c l f) n = refl
parts_packed xs (not_loaded c l f) z n = refl

names_found_good : (xs : List (List ℕ)) (x : Found) → on_listed x languages_of ≡ fine xs → names_good xs ≡ true
unfolding on_listed
names_found_good xs missing e = clash (cc)
names_found_good xs (found k t) e = languages_good k t xs e

module _ (kind : NameType) (fs : List File) (xs : List (List ℕ)) (e : names_of kind fs ≡ fine xs) where
  pub names_good_lem : names_good xs ≡ true
  unfolding names_of
  names_good_lem = names_found_good xs (file_named (type_prefix kind ++ languages_part) 0 fs) e

  names_few : length xs ≤ 32
  unfolding names_good
  names_few = leb-true _ _ (and_inv _ _ names_good_lem).0

files_length : (pre : List ℕ) (xs : List (List ℕ)) → length (list_files pre xs) ≡ 3 * length xs + 2
unfolding list_files three_of two_of
files_length pre [] = refl
files_length pre (x ∷ xs) = omega (arith, files_length pre xs)

pub lists_counted : (kind : NameType) (fs : List File) (xs : List (List ℕ)) (ls : List (List Rule))
    → lists_of (names_bytes xs) fs (list_files (type_prefix kind) xs) ≡ fine ls → length ls ≡ 3 * length xs + 2
lists_counted kind fs xs ls e = lists_length (names_bytes xs) fs _ ls e ∙ files_length (type_prefix kind) xs

packed_is : (kind : NameType) (fs : List File) (xs : List (List ℕ)) (bytes : List ℕ) (n : ℕ) → names_of kind fs ≡ fine xs → bytes ≡ names_bytes xs
    → n ≡ length xs
    → packed_of kind fs bytes n ≡ written (pack_from kind fs)
unfolding packed_of pack_from lists_in and_load
packed_is kind fs xs bytes n h e c =
    rw (e, c, h, strings_names xs) (parts_packed xs (guess_file kind fs (names_bytes xs)) (lists_of (names_bytes xs) fs (list_files (type_prefix kind) xs)) (lists_counted kind fs xs))

module _ (kind : NameType) (fs : List File) (nm : List ℕ) (r : Result NameList why.Refused) (w : NamesRead (names_of kind fs) r nm) where
  pub files_no_names : (c : why.Refused) (out : List ℕ) → r ≡ Err c → AnswerIs (written (pack_from kind fs)) out (loaded.Refused c.why c.line c.file) out
  unfolding pack_from and_load
  files_no_names c out h = refused_is (pack_from kind fs) c.why c.line c.file out (rw (not_named nm r _ c.why c.line c.file w h) refl)

  module _ (list : NameList) (h : r ≡ Ok list) where
    named : WasNamed (names_of kind fs) nm list.count list.len
    named = was_named nm r _ list.count list.len w h

    pub files_slice : list.len ≤ length nm
    files_slice = let v = named in omega (arith, v.size, ap length v.front, length-take list.len nm)

    pub files_languages : list.count ≤ 32
    files_languages = let v = named in rw v.count (names_few kind fs v.it v.is)

    pub files_done : (out out' : List ℕ) (z : Loaded) → AnswerIs (packed_of kind fs (take (list.len - 0) (drop 0 nm)) list.count) out z out'
        → AnswerIs (written (pack_from kind fs)) out z out'
    files_done out out' z a =
        let v = named in
        rw (← packed_is kind fs v.it _ list.count v.is (ap (λ (k : ℕ). take k nm) (sub-zero list.len) ∙ v.front) v.count) a

-- ---- any bytes

-- what goes on with a type's number goes on with its kind
on_kind : {A : Type 0} → Option NameType → A → (NameType → A) → A
on_kind (Some kind) x k = k kind
on_kind None x k = x

kind_on : {A : Type 0} (ty : ℕ) (x : A) (k : NameType → A) → on_type ty x k ≡ on_kind (type_numbered ty) x k
unfolding type_numbered on_type on_kind
kind_on zero x k = refl
kind_on (suc zero) x k = refl
kind_on (suc (suc zero)) x k = refl
kind_on (suc (suc (suc n))) x k = refl

bundle_bad : {A : Type 0} (x : Read (List File)) (k : List File → Loading A) → well_formed x ≡ false → on_bundle x k ≡ not_loaded BundleBroken 0 0
unfolding on_bundle
bundle_bad cut k b = refl
bundle_bad (got fs r) k b = pick_false _ _ _ b

-- the files that the code finds are those of a bundle that is well formed
bundle_good : {A : Type 0} (s : List ℕ) (x : Read (List File)) (k : List File → Loading A) → read_bundle s ≡ x → well_formed x ≡ true
    → on_bundle x k ≡ k (files_of s)
unfolding on_bundle well_formed
bundle_good s cut k e b = clash (cc)
bundle_good s (got fs r) k e b = pick_true _ _ _ b ∙ ap k (sym (files_read s fs r e))

module _ (ty : ℕ) (s out : List ℕ) (x : Option NameType) (e : x ≡ type_numbered ty) where
  pub load_unknown : x ≡ None → AnswerIs (written (load_of ty s)) out (loaded.Refused SettingUnknown 0 0) out
  unfolding load_of on_kind
  load_unknown h = refused_is (load_of ty s) SettingUnknown 0 0 out (kind_on ty _ _ ∙ rw (← e, h) refl)

  module _ (kind : NameType) (h : x ≡ Some kind) where
    known_is : load_of ty s ≡ on_bundle (read_bundle s) (pack_from kind)
    unfolding load_of on_kind
    known_is = kind_on ty _ _ ∙ rw (← e, h) refl

    pub load_bad : well_formed (read_bundle s) ≡ false → AnswerIs (written (load_of ty s)) out (loaded.Refused BundleBroken 0 0) out
    load_bad b = refused_is (load_of ty s) BundleBroken 0 0 out (known_is ∙ bundle_bad _ _ b)

    pub load_good : (out' : List ℕ) (z : Loaded) → well_formed (read_bundle s) ≡ true → AnswerIs (written (pack_from kind (files_of s))) out z out'
        → AnswerIs (written (load_of ty s)) out z out'
    load_good out' z b a = rw (known_is ∙ bundle_good s _ _ refl b) a

pub ruleset names_loaded = (rules, names_found, found_order, found_within, names_missing)

pub ruleset packs = (rules, packed_lists, packed_stop, packed_refused)

pub ruleset answers = (rules, answer_long, answer_refused, answer_done, answer_copied)

pub ruleset files = (rules, files_no_names, files_slice, files_languages, files_done)

pub ruleset loading = (rules, tests, load_unknown, load_bad, load_good)
