-- "Words part at spaces; each word is shown as the part of the name where it stands." (01, Spelling a name, step 4)
use Rattle.std.specs.Prelude.{ℕ, suc, ◌+◌, ◌-◌, Bool, false, not, List, [], ◌∷◌, eqb, length, take, drop}
use Rattle.base.specs.Pick.{pick}

-- a word goes on in s
unfoldable pub goes_on : List ℕ → Bool
goes_on [] = false
goes_on (b ∷ s) = not (eqb b 32)

-- b leads the first word, or is a word of its own
unfoldable pub led : ℕ → Bool → List (List ℕ) → List (List ℕ)
led b more [] = (b ∷ []) ∷ []
led b more (w ∷ ws) = pick more ((b ∷ w) ∷ ws) ((b ∷ []) ∷ w ∷ ws)

unfoldable pub words_of : List ℕ → List (List ℕ)
words_of [] = []
words_of (b ∷ s) = pick (eqb b 32) (words_of s) (led b (goes_on s) (words_of s))

-- how many spaces a text starts with, and how many bytes stand before its first space
unfoldable pub spaces : List ℕ → ℕ
spaces [] = 0
spaces (b ∷ s) = pick (eqb b 32) (suc (spaces s)) 0

unfoldable pub letters : List ℕ → ℕ
letters [] = 0
letters (b ∷ s) = pick (eqb b 32) 0 (suc (letters s))

-- the first place at or after p with no space, and that with a space; or the end
unfoldable pub word_start : List ℕ → ℕ → ℕ
word_start s p = p + spaces (drop p s)

unfoldable pub word_end : List ℕ → ℕ → ℕ
word_end s p = p + letters (drop p s)

-- where the first word at or after a place stands: from its start up to the place behind it
unfoldable pub past_word : List ℕ → ℕ → ℕ
past_word s p = word_end s (word_start s p)

-- the part of a text from one place up to another
unfoldable pub stretch : List ℕ → ℕ → ℕ → List ℕ
stretch s a e = take (e - a) (drop a s)

-- that word, "shown as the part of the name where it stands"
unfoldable pub word_at : List ℕ → ℕ → List ℕ
word_at s p = stretch s (word_start s p) (past_word s p)

unfoldable pub one_word : List ℕ → Bool
one_word s = eqb (length (words_of s)) 1
