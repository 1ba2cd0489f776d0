-- Spellings without data inside: one case a row.
use Rattle.std.specs.Prelude.{◌≡◌, ℕ, ◌≤◌, Bool, true, false, ◌||◌, ◌==◌, ℤ, List, [], ◌∷◌, ◌++◌, length, map, codes}
use Rattle.front_reader.specs.Characters.{is_token, is_printed, folded}
use Rattle.front_reader.specs.Tokens.{IsToken, is_integer, integer_value, is_wide, is_float, is_dot}

-- what is spelled: an integer, a character, a symbol by its name, a string
pub data Atom : Type 0 where
  an_integer : ℤ → Atom
  a_character : ℕ → Atom
  a_symbol : List ℕ → Atom
  a_string : List ℕ → Atom

-- a string may have any byte; between bars stand the bytes 32 to 126
abbrev pub may_stand : ℕ → ℕ → Bool
may_stand quote b = quote == 34 || is_printed b

-- `Inside quote bs content`: the bytes between two such quotes stand for that content, where `\` before
-- a byte gives that byte
pub data Inside (quote : ℕ) : List ℕ → List ℕ → Type 0 where
  nothing : Inside quote [] []
  plain : (b : ℕ) (bs content : List ℕ) → (b == quote) ≡ false → (b == 92) ≡ false → may_stand quote b ≡ true
      → Inside quote bs content → Inside quote (b ∷ bs) (b ∷ content)
  escaped : (b : ℕ) (bs content : List ℕ) → may_stand quote b ≡ true
      → Inside quote bs content → Inside quote (92 ∷ b ∷ bs) (b ∷ content)

-- `b` `o` `x`, each with its base
pub data Base : ℕ → ℕ → Type 0 where
  binary : Base 98 2
  octal : Base 111 8
  hexadecimal : Base 120 16

-- `Spells b after a`: the bytes b, where the text goes on with `after`, spell that
pub data Spells : List ℕ → List ℕ → Atom → Type 0 where
  -- `[+-]?[0-9]+`
  decimal : (w after : List ℕ) → IsToken w after → is_integer 10 w ≡ true → is_wide 10 w ≡ false
      → Spells w after (an_integer (integer_value 10 w))
  -- any other token that is no float and no dot: its letters are folded
  token : (w after : List ℕ) → IsToken w after → is_integer 10 w ≡ false → is_float w ≡ false → is_dot w ≡ false
      → length w ≤ 256 → Spells w after (a_symbol (map folded w))
  -- `|..|`
  barred : (bs after name : List ℕ) → Inside 124 bs name → length name ≤ 256
      → Spells (124 ∷ (bs ++ 124 ∷ [])) after (a_symbol name)
  -- `"..."`
  quoted : (bs after content : List ℕ) → Inside 34 bs content
      → Spells (34 ∷ (bs ++ 34 ∷ [])) after (a_string content)
  -- `#b`, `#o` or `#x` and a token of digits of that base
  based : (letter base : ℕ) (w after : List ℕ) → Base letter base → IsToken w after → is_integer base w ≡ true
      → is_wide base w ≡ false → Spells (35 ∷ letter ∷ w) after (an_integer (integer_value base w))
  -- `#\` and a byte that is no token character
  marked : (b : ℕ) (after : List ℕ) → is_token b ≡ false → Spells (35 ∷ 92 ∷ b ∷ []) after (a_character b)
  -- `#\` and a token of one byte
  lettered : (b : ℕ) (after : List ℕ) → IsToken (b ∷ []) after → Spells (35 ∷ 92 ∷ b ∷ []) after (a_character b)
  -- `#\space` and `#\newline`, in letters of either case
  space : (w after : List ℕ) → IsToken w after → map folded w ≡ codes "space"
      → Spells (35 ∷ 92 ∷ w) after (a_character 32)
  newline : (w after : List ℕ) → IsToken w after → map folded w ≡ codes "newline"
      → Spells (35 ∷ 92 ∷ w) after (a_character 10)
