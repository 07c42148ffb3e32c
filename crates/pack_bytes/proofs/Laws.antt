-- Reading the bytes of a good pack gives the pack back, and its bytes are bytes. Assumes nothing.
use mathlib.Core.Path.{◌≡◌, refl, sym, ap, ap₂, ◌∙◌}
use mathlib.Core.Bool.{Bool, true, false, false≢true}
use mathlib.Core.List.{List, [], ◌∷◌, ◌++◌, append_assoc, append-nil}
use Prim.Native.Nat.{ℕ, zero, suc, ◌-◌, ◌/◌, ◌%◌, ◌^◌, ◌≤◌, ◌<◌}
use native.Mathlib.Nat.{lt_of_lt_of_le}
use native.Mathlib.Omega.{arith}
use lib.Pow.{pow_mono}
use lib.Dec.{eqb}
use lib.ListN.{length, get_or, length-append}
use lib.Seq.{take-append_seam, drop-append_seam, take_at}
use borrow.Author.Tests.{le-leb, leb-true, ltb-true, eq-eqb}
use Rattle.base.specs.Pick.{pick}
use Rattle.languages.specs.Names.{is_letter, all_letters, language_name}
use Rattle.strings.specs.Reading.{Read, got, and_read, read_byte, read_more, read_number, read_text, read_many, is_nil}
use Rattle.pack.specs.Packs.{Guess, Pack, Verdict, accepted, read_names, read_guess, read_guesses, read_rule, read_list, all, names_good, guess_good, guesses_good, list_good, section, names_in, list_count, list_sections, end_section, pack_of}
use Rattle.rule_lines.specs.Rules.{Rule}
use Rattle.pack_bytes.specs.Bytes.{text_bytes, count_bytes, mask_bytes, names_bytes, guess_bytes, rule_bytes, list_bytes, pack_bytes}
use Rattle.base.proofs.PickLaws.{pick_true, and_inv}
use Rattle.held.specs.Met.{bytes_of_all}
use Rattle.pack_bytes.specs.InnerContracts.{Each, none, more, GoodPack, Short, ShortRule, ShortPack}

-- ---- for a writer: the bytes of some and then others

pub bytes_append : {A : Type 0} (f : A → List ℕ) (xs ys : List A) → bytes_of_all f (xs ++ ys) ≡ bytes_of_all f xs ++ bytes_of_all f ys
unfolding bytes_of_all
bytes_append f [] ys = refl
bytes_append f (x ∷ xs) ys = ap (λ (l : List ℕ). f x ++ l) (bytes_append f xs ys) ∙ sym (append_assoc (f x) (bytes_of_all f xs) (bytes_of_all f ys))

pub bytes_snoc : {A : Type 0} (f : A → List ℕ) (xs : List A) (x : A) → bytes_of_all f (xs ++ (x ∷ [])) ≡ bytes_of_all f xs ++ f x
unfolding bytes_of_all
bytes_snoc f xs x = bytes_append f xs (x ∷ []) ∙ ap (λ (l : List ℕ). bytes_of_all f xs ++ l) (append-nil (f x))

-- ---- what is written is read back, whatever follows

abbrev pub Back : {A : Type 0} → (List ℕ → Read A) → (A → List ℕ) → A → Type 0
Back f g x = (r : List ℕ) → f (g x ++ r) ≡ got x r

pub text_back : (t : List ℕ) → Back read_text text_bytes t
unfolding read_text text_bytes
text_back t r =
    let fits : length t ≤ length (t ++ r) = omega (arith, length-append t r) in
    pick_true _ _ _ (le-leb _ _ fits) ∙ ap₂ got (take-append_seam t r) (drop-append_seam t r)

pub count_back : (n : ℕ) → Back (read_number 2) count_bytes n
unfolding read_number read_more count_bytes
count_back n r = ap (λ (m : ℕ). got m r) (omega arith)

pub mask_back : (n : ℕ) → Back (read_number 4) mask_bytes n
unfolding read_number read_more count_bytes mask_bytes
mask_back n r = ap (λ (m : ℕ). got m r) (omega arith)

pub many_back : {A : Type 0} (f : List ℕ → Read A) (g : A → List ℕ) (xs : List A) → Each (Back f g) xs → (r : List ℕ) → read_many f (length xs) (bytes_of_all g xs ++ r) ≡ got xs r
unfolding read_many bytes_of_all and_read
many_back f g [] none r = refl
many_back f g (x ∷ xs) (more e es) r = rw (append_assoc (g x) (bytes_of_all g xs) r, e (bytes_of_all g xs ++ r), many_back f g xs es r) refl

each_of : {A : Type 0} {P : A → Type 0} → ((x : A) → P x) → (xs : List A) → Each P xs
each_of f [] = none
each_of f (x ∷ xs) = more (f x) (each_of f xs)

pub guess_back : (g : Guess) → Back read_guess guess_bytes g
unfolding read_guess guess_bytes read_byte and_read
guess_back g r = rw (append_assoc (mask_bytes g.mask) (text_bytes g.pattern) r, mask_back g.mask (text_bytes g.pattern ++ r), text_back g.pattern r) refl

pub rule_back : (r : Rule) → Back read_rule rule_bytes r
unfolding read_rule rule_bytes and_read
rule_back r q = simp (append_assoc, text_back)

names_back : (ns : List (List ℕ)) (r : List ℕ) → read_names ((length ns ∷ names_bytes ns) ++ r) ≡ got ns r
unfolding read_names read_byte and_read names_bytes
names_back ns = many_back read_text text_bytes ns (each_of text_back ns)

-- a count and as many as it says
counted_back : {A : Type 0} (f : List ℕ → Read A) (g : A → List ℕ) → ((x : A) → Back f g x) → (xs : List A) (r : List ℕ)
    → and_read (read_number 2 ((count_bytes (length xs) ++ bytes_of_all g xs) ++ r)) (λ n q. read_many f n q) ≡ got xs r
unfolding and_read
counted_back f g b xs r = rw (append_assoc (count_bytes (length xs)) (bytes_of_all g xs) r, count_back (length xs) (bytes_of_all g xs ++ r)) (many_back f g xs (each_of b xs) r)

guesses_back : (gs : List Guess) (r : List ℕ) → read_guesses ((count_bytes (length gs) ++ bytes_of_all guess_bytes gs) ++ r) ≡ got gs r
unfolding read_guesses
guesses_back = counted_back read_guess guess_bytes guess_back

pub list_back : (rs : List Rule) → Back read_list list_bytes rs
unfolding read_list list_bytes
list_back = counted_back read_rule rule_bytes rule_back

-- ---- the sections one after the other

section_good : {A : Type 0} (place : ℕ) (good : A → Bool) (rd : Read A) (k : A → List ℕ → Verdict) (a : A) (r : List ℕ) → rd ≡ got a r → good a ≡ true
    → section place good rd k ≡ k a r
unfolding section
section_good place good rd k a r e h = rw e (pick_true _ _ _ h)

lists_back : (s names : List ℕ) (ls : List (List Rule)) → Each (λ rs. list_good names rs ≡ true) ls → (r : List ℕ) (k : List (List Rule) → List ℕ → Verdict)
    → list_sections s names (length ls) (bytes_of_all list_bytes ls ++ r) k ≡ k ls r
unfolding list_sections bytes_of_all
lists_back s names [] none r k = refl
lists_back s names (rs ∷ ls) (more h hs) r k =
    section_good _ (list_good names) _ _ rs (bytes_of_all list_bytes ls ++ r) (ap read_list (append_assoc (list_bytes rs) (bytes_of_all list_bytes ls) r) ∙ list_back rs (bytes_of_all list_bytes ls ++ r)) h
    ∙ lists_back s names ls hs r (λ lists t. k (rs ∷ lists) t)

-- behind a byte and the names' bytes, what lies between is the names' bytes
names_in_lem : (n : ℕ) (l r : List ℕ) → names_in ((n ∷ l) ++ r) r ≡ l
unfolding names_in
names_in_lem n l r =
    let size : length l ≡ suc (length (l ++ r)) - 1 - length r = omega (arith, length-append l r) in
    take_at l r _ size

-- a length byte is read as it stands, so strings of any length come back; that each is a byte is packed_bytes
pub packed : (p : Pack) → GoodPack p → pack_of (pack_bytes p) ≡ accepted p
unfolding pack_of pack_bytes read_byte end_section is_nil pick
packed p h =
    let lists = bytes_of_all list_bytes p.lists in
    let behind = length p.lists ∷ lists in
    let rest = (count_bytes (length p.guesses) ++ bytes_of_all guess_bytes p.guesses) ++ behind in
    section_good 0 names_good _ _ p.names rest (names_back p.names rest) h.names
    ∙ section_good _ (guesses_good (length p.names)) _ _ p.guesses behind (guesses_back p.guesses behind) h.guesses
    ∙ section_good _ (λ (n : ℕ). eqb n (list_count (length p.names))) _ _ (length p.lists) lists refl (eq-eqb _ _ h.counted)
    ∙ ap₂ (λ (l r : List ℕ). list_sections (pack_bytes p) l (length p.lists) r
    (λ ls t. end_section (pack_bytes p) (record { names = p.names; guesses = p.guesses; lists = ls }) t))
    (names_in_lem (length p.names) (names_bytes p.names) rest) (sym (append-nil lists))
    ∙ lists_back (pack_bytes p) (names_bytes p.names) p.lists h.lists [] _

-- ---- the bytes of a short pack are bytes

abbrev Bytes : List ℕ → Type 0
Bytes l = Each (λ b. b < 256) l

each_append : {A : Type 0} {P : A → Type 0} {xs ys : List A} → Each P xs → Each P ys → Each P (xs ++ ys)
each_append none ys = ys
each_append (more x xs) ys = more x (each_append xs ys)

-- from two facts of each, a third
each_from : {A : Type 0} {P Q R : A → Type 0} {xs : List A} → ((x : A) → P x → Q x → R x) → Each P xs → Each Q xs → Each R xs
each_from f none none = none
each_from f (more p ps) (more q qs) = more (f _ p q) (each_from f ps qs)

each_map : {A : Type 0} {P Q : A → Type 0} {xs : List A} → ((x : A) → P x → Q x) → Each P xs → Each Q xs
each_map f ps = each_from (λ x p _. f x p) ps ps

all_each : {A : Type 0} (f : A → Bool) (xs : List A) → all f xs ≡ true → Each (λ x. f x ≡ true) xs
unfolding all
all_each f [] e = none
all_each f (x ∷ xs) e = let i = and_inv _ _ e in more i.0 (all_each f xs i.1)

each_bytes : {A : Type 0} (f : A → List ℕ) {xs : List A} → Each (λ x. Bytes (f x)) xs → Bytes (bytes_of_all f xs)
unfolding bytes_of_all
each_bytes f none = none
each_bytes f (more x xs) = each_append x (each_bytes f xs)

each_below : {l : List ℕ} → Bytes l → (i : ℕ) → get_or l i 0 < 256
each_below none i = omega arith
each_below (more b l) zero = b
each_below (more b l) (suc i) = each_below l i

text_bytes_lem : (t : List ℕ) → Short t → Bytes (text_bytes t)
unfolding text_bytes
text_bytes_lem t h = more {x = length t} (omega (arith, h.size)) h.bytes

count_bytes_lem : (n : ℕ) → n < 65536 → Bytes (count_bytes n)
unfolding count_bytes
count_bytes_lem n h = more {x = n / 256} (omega arith) (more {x = n % 256} (omega arith) none)

mask_bytes_lem : (n : ℕ) → n < 4294967296 → Bytes (mask_bytes n)
unfolding mask_bytes
mask_bytes_lem n h = each_append (count_bytes_lem (n / 65536) (omega arith)) (count_bytes_lem (n % 65536) (omega arith))

letter_bytes : (t : List ℕ) → all_letters t ≡ true → Bytes t
unfolding all_letters is_letter
letter_bytes [] e = none
letter_bytes (b ∷ t) e =
    let i = and_inv _ _ e in
    let low : b ≤ 122 = leb-true _ _ (and_inv _ _ i.0).1 in
    more {x = b} (omega arith) (letter_bytes t i.1)

name_letters : (t : Bool) (l : List ℕ) → pick t false (all_letters l) ≡ true → all_letters l ≡ true
unfolding pick
name_letters true l e = absurd (false≢true e)
name_letters false l e = e

name_bytes_lem : (t : List ℕ) → language_name t ≡ true → Bytes (text_bytes t)
unfolding language_name
name_bytes_lem t e =
    let a = and_inv _ _ (and_inv _ _ e).1 in
    let size : length t ≤ 24 = leb-true _ _ a.0 in
    text_bytes_lem t (record { size = omega arith; bytes = letter_bytes t (name_letters _ t a.1) })

guess_bytes_lem : (n : ℕ) → n ≤ 32 → (g : Guess) → guess_good n g ≡ true → Short g.pattern → Bytes (guess_bytes g)
unfolding guess_good guess_bytes
guess_bytes_lem n h g e s =
    let a = and_inv _ _ e in
    let b = and_inv _ _ (and_inv _ _ a.1).1 in
    let mask : g.mask < 2 ^ 32 = lt_of_lt_of_le (ltb-true _ _ b.0) (pow_mono h) in
    let accept : g.accept ≤ 1 = leb-true _ _ a.0 in
    more {x = g.accept} (omega arith) (each_append (mask_bytes_lem g.mask mask) (text_bytes_lem g.pattern s))

rule_bytes_lem : (r : Rule) → ShortRule r → Bytes (rule_bytes r)
unfolding rule_bytes
rule_bytes_lem r s =
    each_append (text_bytes_lem _ s.pattern) (each_append (text_bytes_lem _ s.left) (each_append (text_bytes_lem _ s.right) (text_bytes_lem _ s.expression)))

list_bytes_lem : (names : List ℕ) (rs : List Rule) → list_good names rs ≡ true → Each ShortRule rs → Bytes (list_bytes rs)
unfolding list_good list_bytes
list_bytes_lem names rs e s =
    let few : length rs ≤ 4096 = leb-true _ _ (and_inv _ _ e).0 in
    each_append (count_bytes_lem (length rs) (omega arith)) (each_bytes rule_bytes (each_map rule_bytes_lem s))

names_parts : (ns : List (List ℕ)) → names_good ns ≡ true → (length ns ≤ 32) × Each (λ t. language_name t ≡ true) ns
unfolding names_good
names_parts ns e = let a = and_inv _ _ e in (leb-true _ _ a.0, all_each language_name ns (and_inv _ _ a.1).0)

guesses_parts : (n : ℕ) (gs : List Guess) → guesses_good n gs ≡ true → (length gs ≤ 4096) × Each (λ g. guess_good n g ≡ true) gs
unfolding guesses_good
guesses_parts n gs e = let a = and_inv _ _ e in (leb-true _ _ a.0, all_each (guess_good n) gs a.1)

pub packed_bytes : (p : Pack) → GoodPack p → ShortPack p → (i : ℕ) → get_or (pack_bytes p) i 0 < 256
unfolding pack_bytes names_bytes list_count
packed_bytes p h s =
    let ns = names_parts p.names h.names in
    let gs = guesses_parts (length p.names) p.guesses h.guesses in
    let count : length p.guesses < 65536 = omega (arith, gs.0) in
    each_below (each_append (more {x = length p.names} (omega (arith, ns.0)) (each_bytes text_bytes (each_map name_bytes_lem ns.1)))
    (each_append (each_append (count_bytes_lem _ count) (each_bytes guess_bytes (each_from (guess_bytes_lem _ ns.0) gs.1 s.guesses)))
    (more {x = length p.lists} (omega (arith, ns.0, h.counted)) (each_bytes list_bytes (each_from (list_bytes_lem _) h.lists s.lists)))))
