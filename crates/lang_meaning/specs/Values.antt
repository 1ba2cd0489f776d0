-- Values (ISO/IEC 13816:2007, 13): an integer, a character, a symbol, nil, or the number of an object in
-- the store.
use Rattle.std.specs.Prelude.{ℕ, ℤ, pos, negsuc, Bool, true, false, ◌&&◌, ◌==◌, int_le, List, [], ◌∷◌, if◌then◌else◌}
use Rattle.std.specs.Str.{bytes_eq}

-- a symbol that a text names, by its name, or one that an expansion made and no text names; those that a
-- program makes while it runs are objects
pub data SymbolValue : Type 0 where
  named : List ℕ → SymbolValue
  unnamed : (expansion serial : ℕ) → SymbolValue

abbrev pub same_symbol : SymbolValue → SymbolValue → Bool
same_symbol (named a) (named b) = bytes_eq a b
same_symbol (named a) (unnamed x s) = false
same_symbol (unnamed x s) (named b) = false
same_symbol (unnamed x s) (unnamed y r) = x == y && s == r

pub data Value : Type 0 where
  integer : ℤ → Value
  character : ℕ → Value
  symbol : SymbolValue → Value
  nil : Value
  object : ℕ → Value

-- the usual true value, a symbol
abbrev pub t : Value
t = symbol (named (116 ∷ []))

-- t or nil
abbrev pub truth : Bool → Value
truth b = if b then t else nil

-- whether a value is true: all but nil is
abbrev pub is_true : Value → Bool
is_true nil = false
is_true (integer n) = true
is_true (character c) = true
is_true (symbol s) = true
is_true (object i) = true

-- the integers of this profile: they have 30 bits
abbrev pub in_range : ℤ → Bool
in_range n = int_le (negsuc 536870911) n && int_le n (pos 536870911)

-- whether two integers are equal
abbrev pub int_equal : ℤ → ℤ → Bool
int_equal a b = int_le a b && int_le b a

-- `eq` and `eql`, which are one relation in this profile (ISO/IEC 13816:2007, 13.3): integers, characters
-- and symbols by value, objects by identity
abbrev pub same : Value → Value → Bool
same (integer a) (integer b) = int_equal a b
same (character a) (character b) = a == b
same (symbol a) (symbol b) = same_symbol a b
same nil nil = true
same (object a) (object b) = a == b
same (integer a) w = false
same (character a) w = false
same (symbol a) w = false
same nil w = false
same (object a) w = false
