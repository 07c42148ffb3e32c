-- Loading a bundle (01, What the desk gets: "Loading checks 4, 10, then the files in pack order").
use Rattle.std.specs.Prelude.{◌≡◌, ℕ, zero, suc, min, List, [], ◌∷◌, ◌++◌, leb, length}
use Rattle.std.proofs.lemmas.List.Edits.{sets}
use Rattle.base.specs.Pick.{pick}
use Rattle.refusals.specs.declared.Refusal.{Refusal}
use Rattle.refusals.specs.declared.Refusal.TheVariants.{SettingUnknown, NoRoom, BundleBroken, FileMissing}
use Rattle.prefixes.specs.declared.prefixes.NameType.{NameType}
use Rattle.prefixes.specs.declared.prefixes.NameType.TheVariants.{Ashkenazi, Generic, Sephardic}
use Rattle.refusals.specs.Numbers.{number_of}
use Rattle.strings.specs.Reading.{Read, cut, got}
use Rattle.pack.specs.Packs.{Guess, Pack}
use Rattle.rule_lines.specs.Rules.{Rule}
use Rattle.pack_bytes.specs.Bytes.{names_bytes, pack_bytes}
use Rattle.bundles.specs.Bundles.{File, Found, missing, found, read_bundle, well_formed, file_named}
use Rattle.rule_lists.specs.Outcomes.{Loading, fine, not_loaded, and_load}
use Rattle.rule_lists.specs.Lists.{lists_of, list_files, type_prefix}
use Rattle.loader.specs.Languages.{languages_of}
use Rattle.loader.specs.Guesses.{guesses_of}
use Rattle.loader.specs.declared.loading.Loaded.{Loaded}
use Rattle.loader.specs.declared.loading.Loaded.TheVariants.{Done, Refused}

-- "Ashkenazi 0, Generic 1, Sephardic 2"; a number unknown is 4
unfoldable pub on_type : {A : Type 0} → ℕ → A → (NameType → A) → A
on_type zero x k = k Ashkenazi
on_type (suc zero) x k = k Generic
on_type (suc (suc zero)) x k = k Sephardic
on_type (suc (suc (suc n))) x k = x

-- the bytes of `_languages` and `_lang`
abbrev pub languages_part : List ℕ
languages_part = 95 ∷ 108 ∷ 97 ∷ 110 ∷ 103 ∷ 117 ∷ 97 ∷ 103 ∷ 101 ∷ 115 ∷ []

abbrev pub lang_part : List ℕ
lang_part = 95 ∷ 108 ∷ 97 ∷ 110 ∷ 103 ∷ []

-- a listed file; one that isn't in the bundle is 11 without a line
unfoldable pub on_listed : {A : Type 0} → Found → (ℕ → List ℕ → Loading A) → Loading A
on_listed missing k = not_loaded FileMissing 0 0
on_listed (found f s) k = k f s

unfoldable pub names_of : NameType → List File → Loading (List (List ℕ))
names_of kind fs = on_listed (file_named (type_prefix kind ++ languages_part) 0 fs) languages_of

-- the guessing rules of a type; `bytes` is those of the languages, each behind its length byte
unfoldable pub guess_file : NameType → List File → List ℕ → Loading (List Guess)
guess_file kind fs bytes = on_listed (file_named (type_prefix kind ++ lang_part) 0 fs) (guesses_of bytes)

unfoldable pub lists_in : NameType → List File → List (List ℕ) → Loading (List (List Rule))
lists_in kind fs names = lists_of (names_bytes names) fs (list_files (type_prefix kind) names)

-- the pack of a type's files: the language list, the guessing file, the lists
unfoldable pub pack_from : NameType → List File → Loading Pack
pack_from kind fs =
    and_load (names_of kind fs) λ names.
    and_load (guess_file kind fs (names_bytes names)) λ guesses.
    and_load (lists_in kind fs names) λ lists.
    fine (record { names = names; guesses = guesses; lists = lists })

-- "10 bundle badly formed": the files of a bundle are those that were read
unfoldable pub on_bundle : {A : Type 0} → Read (List File) → (List File → Loading A) → Loading A
on_bundle cut k = not_loaded BundleBroken 0 0
on_bundle (got files r) k = pick (well_formed (got files r)) (k files) (not_loaded BundleBroken 0 0)

unfoldable pub load_of : ℕ → List ℕ → Loading Pack
load_of ty s = on_type ty (not_loaded SettingUnknown 0 0) (λ kind. on_bundle (read_bundle s) (pack_from kind))

-- ---- the answer, and what is left in the buffer

unfoldable pub written : Loading Pack → Loading (List ℕ)
written (fine p) = fine (pack_bytes p)
written (not_loaded c l f) = not_loaded c l f

-- an answer's numbers, as the table has them: 0 with the bytes written, or the refusal's number, place and file
pub record LoadNumbers : Type 0 where
  pub code : ℕ
  pub place : ℕ
  pub file : ℕ

abbrev pub done_at : ℕ → LoadNumbers
done_at n = record { code = 0; place = n; file = 0 }

abbrev pub refused_at : Refusal → ℕ → ℕ → LoadNumbers
refused_at w p f = record { code = number_of w; place = p; file = f }

unfoldable pub loaded_numbers : Loaded → LoadNumbers
loaded_numbers (Done n) = done_at n
loaded_numbers (Refused w p f) = refused_at w p f

-- the numbers of what was loaded, in a buffer with that room. "9 .. pack longer than the output buffer: length needed, 4294967295 if more"
unfoldable pub answer : Loading (List ℕ) → ℕ → LoadNumbers
answer (fine bytes) room = pick (leb (length bytes) room) (done_at (length bytes)) (refused_at NoRoom (min 4294967295 (length bytes)) 0)
answer (not_loaded w l f) room = refused_at w l f

-- "A refusal .. writes nothing; a success leaves bytes after the answer unchanged."
unfoldable pub filled : Loading (List ℕ) → List ℕ → List ℕ
filled (fine bytes) out = pick (leb (length bytes) (length out)) (sets out 0 bytes) out
filled (not_loaded w l f) out = out

pub record AnswerIs (x : Loading (List ℕ)) (out : List ℕ) (r : Loaded) (out' : List ℕ) : Type 0 where
  pub result : loaded_numbers r ≡ answer x (length out)
  pub buffer : out' ≡ filled x out

-- the promise of `load`
abbrev pub LoadIs : ℕ → List ℕ → List ℕ → Loaded → List ℕ → Type 0
LoadIs ty s out r out' = AnswerIs (written (load_of ty s)) out r out'
