-- The bytes of a text: blanks, characters of tokens, digits and letters, and where a byte stands.
use Rattle.std.specs.Prelude.{ℕ, ◌+◌, ◌-◌, Bool, false, ◌||◌, ◌&&◌, ◌==◌, nat_le, List, [], ◌∷◌, if◌then◌else◌, codes}
use Rattle.std.specs.List.{list_any}
use Rattle.base.specs.declared.place.Place.{Place}

-- tabulator, line feed, form feed, carriage return and space
unfoldable pub is_blank : ℕ → Bool
is_blank b = b == 9 || b == 10 || b == 12 || b == 13 || b == 32

abbrev pub is_digit : ℕ → Bool
is_digit b = nat_le 48 b && nat_le b 57

abbrev pub is_capital : ℕ → Bool
is_capital b = nat_le 65 b && nat_le b 90

abbrev pub is_small : ℕ → Bool
is_small b = nat_le 97 b && nat_le b 122

-- the bytes that tokens are made of
unfoldable pub is_token : ℕ → Bool
is_token b = is_digit b || is_capital b || is_small b || list_any (λ c. b == c) (codes "!$%&*+-./:<=>?^_~@[]{}")

-- the bytes that a bar symbol is made of
abbrev pub is_printed : ℕ → Bool
is_printed b = nat_le 32 b && nat_le b 126

-- a capital letter as the small one
unfoldable pub folded : ℕ → ℕ
folded b = if is_capital b then b + 32 else b

-- the value of a digit or a letter as a digit, and one that no base has for any other byte
unfoldable pub digit_value : ℕ → ℕ
digit_value b =
    if is_digit b then b - 48
    else if is_small b then b - 87
    else if is_capital b then b - 55
    else 36

-- the text's first byte is such a byte
abbrev pub begins : (ℕ → Bool) → List ℕ → Bool
begins p [] = false
begins p (b ∷ bs) = p b

-- the place behind a byte: line feed ends a line, and what has no line stays so
unfoldable pub place_after : Place → ℕ → Place
place_after p b =
    if p.line == 0 then p
    else if b == 10 then record { line = p.line + 1; column = 1 }
    else record { line = p.line; column = p.column + 1 }

-- the place behind bytes
abbrev pub place_behind : Place → List ℕ → Place
place_behind p [] = p
place_behind p (b ∷ bs) = place_behind (place_after p b) bs
