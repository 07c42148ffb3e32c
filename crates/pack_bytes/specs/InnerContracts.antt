-- What only contracts and proofs of this crate's functions use.
use Rattle.std.specs.Prelude.{List, ◌∷◌, [], ℕ, ◌%◌, ◌≤◌, ◌<◌, length, ◌≡◌, true}
use Rattle.pack.specs.Packs.{Pack, names_good, guesses_good, list_count, list_good}
use Rattle.rule_lines.specs.Rules.{Rule}
use Rattle.pack_bytes.specs.Bytes.{names_bytes}

-- what is written of any text: the length byte has room for 255
unfoldable pub text_put : List ℕ → List ℕ
text_put t = (length t % 256) ∷ t

-- what holds of each of a list
pub data Each {A : Type 0} (P : A → Type 0) : List A → Type 0 where
  none : Each P []
  more : {x : A} {xs : List A} → P x → Each P xs → Each P (x ∷ xs)

pub record GoodPack (p : Pack) : Type 0 where
  pub names : names_good p.names ≡ true
  pub guesses : guesses_good (length p.names) p.guesses ≡ true
  pub counted : length p.lists ≡ list_count (length p.names)
  pub lists : Each (λ rs. list_good (names_bytes p.names) rs ≡ true) p.lists

-- a string of bytes, and its length fits its length byte
pub record Short (t : List ℕ) : Type 0 where
  pub size : length t ≤ 255
  pub bytes : Each (λ b. b < 256) t

pub record ShortRule (r : Rule) : Type 0 where
  pub pattern : Short r.pattern
  pub left : Short r.left
  pub right : Short r.right
  pub expression : Short r.expression

-- a good pack's names are short as they are
pub record ShortPack (p : Pack) : Type 0 where
  pub guesses : Each (λ g. Short g.pattern) p.guesses
  pub lists : Each (Each ShortRule) p.lists
