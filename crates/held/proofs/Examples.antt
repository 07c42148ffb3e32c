-- Worked examples, by computation. A rule is a number, and its first character the tens. Assumes nothing.
use mathlib.Core.Path.{◌≡◌, refl}
use mathlib.Core.List.{[], ◌∷◌}
use Prim.Native.Nat.{ℕ, ◌/◌}
use Rattle.base.specs.Pick.{pick}
use Rattle.refusals.specs.declared.Refusal.TheVariants.{FileMissing, LineUnreadable, IncludeTooDeep}
use Rattle.held.specs.Met.{Met, end, rule, file, no_rules, brings_none, add, extend, held_after, spread, entries}
use Rattle.held.specs.Files.{passed, include, bad_line, no_content, lines, not_read, before, on_read, on_content, read_lines, follow, read_listed}
use Rattle.held.specs.InnerContracts.{note_in, stays_in, noted, kept, insert_number, keys_from, at_place, key_bytes, either_of, brings, since, last_entry, from}

tens : ℕ → ℕ
tens r = r / 10

-- 11 goes when a file that brings 1 is entered, and 21 stays; what the inner file holds is its own include's and what follows
example : Met ℕ
example = rule 21 (rule 11 (file (rule 12 (file (rule 13 end) (rule 14 end))) (rule 31 (rule 15 end))))

-- the last entry into a file that brings 1 is the second
example_held : (spread (held_after tens no_rules example) 5 0 ≡ 13 ∷ 14 ∷ 15 ∷ 21 ∷ 31 ∷ []) × (since tens 1 [] example ≡ 13 ∷ 14 ∷ 15 ∷ [])
    × (last_entry tens 1 0 0 0 example ≡ 2) × (from tens 1 2 0 example ≡ 13 ∷ 14 ∷ 15 ∷ [])
unfolding example tens pick no_rules brings_none add extend held_after spread either_of brings since entries last_entry from
example_held = (refl, refl, refl, refl)

-- the tables: the last entries for 1, 2 and 3 are 2, 0 and 0; and the numbers by which they are put in order: places 1, 2, 4, 0 and 3
example_tables : (noted tens 0 0 [] example ≡ 514 ∷ 1024 ∷ 1536 ∷ []) × (kept tens (514 ∷ 1024 ∷ 1536 ∷ []) 0 [] example ≡ 21 ∷ 13 ∷ 14 ∷ 31 ∷ 15 ∷ [])
    × (keys_from tens 0 [] (21 ∷ 13 ∷ 14 ∷ 31 ∷ 15 ∷ []) ≡ 4097 ∷ 4098 ∷ 4100 ∷ 8192 ∷ 12291 ∷ [])
    × (key_bytes (λ r. r ∷ []) (21 ∷ 13 ∷ 14 ∷ 31 ∷ 15 ∷ []) (4097 ∷ 4098 ∷ 4100 ∷ 8192 ∷ 12291 ∷ []) ≡ 13 ∷ 14 ∷ 15 ∷ 21 ∷ 31 ∷ [])
unfolding example tens pick entries note_in noted stays_in kept insert_number keys_from at_place key_bytes
example_tables = (refl, refl, refl, refl)

-- file 1 is found under every name and includes itself: too deep, in its line 1. A file that is missing, in line 4 of file 7
example_refused : (read_listed {R = ℕ} (λ name. lines 1 (include name ∷ [])) 0 (passed 3 ∷ include [] ∷ []) ≡ not_read IncludeTooDeep 1 1)
    × (read_listed {R = ℕ} (λ name. no_content) 7 (passed 3 ∷ include [] ∷ bad_line LineUnreadable ∷ []) ≡ not_read FileMissing 4 7)
unfolding pick before on_read on_content read_lines follow read_listed
example_refused = (refl, refl)
