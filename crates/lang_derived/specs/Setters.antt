-- The function that sets the place of an operator, as the code finds it.
use Rattle.std.specs.Prelude.{ℕ, List, Option, Some, None, if◌then◌else◌, codes}
use Rattle.std.specs.Str.{bytes_eq}
use Rattle.lang_derived.specs.Pieces.{Piece, word}

-- the function that sets a place of a list or an array
abbrev pub known_setter : List ℕ → Option (List ℕ)
known_setter op =
    if bytes_eq op (codes "car") then Some (codes "%set-car")
    else if bytes_eq op (codes "cdr") then Some (codes "%set-cdr")
    else if bytes_eq op (codes "elt") then Some (codes "set-elt")
    else if bytes_eq op (codes "aref") then Some (codes "set-aref")
    else if bytes_eq op (codes "garef") then Some (codes "set-garef")
    else None

abbrev pub setter_word : Option (List ℕ) → Option Piece
setter_word None = None
setter_word (Some text) = Some (word text)
