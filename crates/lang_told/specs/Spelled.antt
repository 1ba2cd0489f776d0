-- How values without parts are printed so that they can be read again, as `format-object` of the library prints them (ISO/IEC 13816:2007, 26.3).
use Rattle.std.specs.Prelude.{ℕ, ◌%◌, ◌^◌, Bool, true, false, not, ◌&&◌, ◌||◌, ◌==◌, nat_le, List, [], ◌∷◌, ◌++◌, if◌then◌else◌, codes}
use Rattle.std.specs.List.{list_all, list_any}
use Rattle.std.specs.Str.{bytes_eq}
use Rattle.std.specs.Fmt.{decimal, signed_decimal}
use Rattle.lang_meaning.specs.Values.{SymbolValue, named, unnamed}
use Rattle.lang_taken.specs.Shapes.{Shape, integer, character, symbol, new_symbol, string, vector, nil, cons, no_datum}

-- bytes between two marks, with `\` before each such mark and each `\`
abbrev pub escaped : (mark : ℕ) → List ℕ → List ℕ
escaped mark [] = []
escaped mark (b ∷ bs) = if b == mark || b == 92 then 92 ∷ b ∷ escaped mark bs else b ∷ escaped mark bs

abbrev pub between : (mark : ℕ) → List ℕ → List ℕ
between mark bs = mark ∷ (escaped mark bs ++ mark ∷ [])

-- a character by its byte, but a blank and the end of a line by their names
unfoldable pub character_text : ℕ → List ℕ
character_text c = if c == 32 then codes "#\\space" else if c == 10 then codes "#\\newline" else 35 ∷ 92 ∷ c ∷ []

abbrev pub is_digit : ℕ → Bool
is_digit b = nat_le 48 b && nat_le b 57

-- small letters, digits and signs: the bytes of names that are read as they stand
unfoldable pub is_name_byte : ℕ → Bool
is_name_byte b = (nat_le 97 b && nat_le b 122) || is_digit b || list_any (λ c. b == c) (codes "!$%&*+-./:<=>?^_~@[]{}")

abbrev pub begins_with_digit : List ℕ → Bool
begins_with_digit [] = false
begins_with_digit (b ∷ bs) = is_digit b

-- with a digit, or with a sign and a digit
unfoldable pub begins_number : List ℕ → Bool
begins_number [] = false
begins_number (b ∷ bs) = is_digit b || ((b == 43 || b == 45) && begins_with_digit bs)

abbrev pub is_empty : List ℕ → Bool
is_empty [] = true
is_empty (b ∷ bs) = false

-- a name that is read as that symbol without bars: it is not empty and no dot alone, it does not begin as a number does, and each of its bytes is one of
-- names
unfoldable pub is_plain : List ℕ → Bool
is_plain name = not (is_empty name) && (list_all is_name_byte name && (not (bytes_eq name (codes ".")) && not (begins_number name)))

-- others stand in bars
abbrev pub name_text : List ℕ → List ℕ
name_text name = if is_plain name then name else between 124 name

-- a symbol that the run, or an expansion, made, by its serial, of which there are 2^29
abbrev pub fresh_text : ℕ → List ℕ
fresh_text serial = codes "#:g" ++ decimal (serial % 2 ^ 29)

abbrev pub symbol_text : SymbolValue → List ℕ
symbol_text (named name) = name_text name
symbol_text (unnamed expansion serial) = fresh_text serial

-- of what has no parts; nothing of what has some, or is no datum
abbrev pub atom_text : Shape → List ℕ
atom_text (integer n) = signed_decimal n
atom_text (character c) = character_text c
atom_text (symbol s) = symbol_text s
atom_text (new_symbol serial) = fresh_text serial
atom_text (string bytes) = between 34 bytes
atom_text nil = codes "nil"
atom_text (vector elements) = []
atom_text (cons car cdr) = []
atom_text no_datum = []

-- whether it is a datum without parts
abbrev pub is_atom : Shape → Bool
is_atom (integer n) = true
is_atom (character c) = true
is_atom (symbol s) = true
is_atom (new_symbol serial) = true
is_atom (string bytes) = true
is_atom nil = true
is_atom (vector elements) = false
is_atom (cons car cdr) = false
is_atom no_datum = false
