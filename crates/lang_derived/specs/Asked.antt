-- What a row of the table asks of a datum: whether it is a symbol, its name, the items of a list, and the function that
-- sets the place of an operator.
use Rattle.std.specs.Prelude.{ℕ, nat_le, Bool, true, false, List, [], ◌++◌, length, Option, Some, None, if◌then◌else◌, codes}
use Rattle.std.specs.Str.{bytes_eq}
use Rattle.base.specs.Data.{Item, item, Content, integer, character, symbol, string, vector, nil, list, items_list, no_tail, dotted}
use Rattle.base.specs.DataNames.{text_of}

abbrev pub is_text : List ℕ → Option (List ℕ) → Bool
is_text text None = false
is_text text (Some other) = bytes_eq other text

-- whether the datum is the symbol of that name
abbrev pub is_word : List (List ℕ) → List ℕ → Item → Bool
is_word names text d = is_text text (text_of names d)

abbrev pub is_symbol_content : Content → Bool
is_symbol_content (symbol s) = true
is_symbol_content (integer n) = false
is_symbol_content (character c) = false
is_symbol_content (string bytes) = false
is_symbol_content (vector ds) = false
is_symbol_content nil = false
is_symbol_content (list ds t) = false

-- whether the datum is a symbol, named or fresh; nil is none
abbrev pub is_symbol : Item → Bool
is_symbol (item p c) = is_symbol_content c

-- the items of a list without a dot; nil is the list without items
abbrev pub content_items : Content → Option (List Item)
content_items nil = Some []
content_items (list ds no_tail) = Some (items_list ds)
content_items (list ds (dotted d)) = None
content_items (integer n) = None
content_items (character c) = None
content_items (symbol s) = None
content_items (string bytes) = None
content_items (vector ds) = None

abbrev pub list_items : Item → Option (List Item)
list_items (item p c) = content_items c

-- the function that sets the place of an operator: the name `(setf op)` is made of one of at most 256 bytes
abbrev pub setf_text : List ℕ → List ℕ
setf_text op = codes "(setf " ++ (op ++ codes ")")

abbrev pub setter_of : List ℕ → Option (List ℕ)
setter_of op =
    if bytes_eq op (codes "car") then Some (codes "%set-car")
    else if bytes_eq op (codes "cdr") then Some (codes "%set-cdr")
    else if bytes_eq op (codes "elt") then Some (codes "set-elt")
    else if bytes_eq op (codes "aref") then Some (codes "set-aref")
    else if bytes_eq op (codes "garef") then Some (codes "set-garef")
    else if nat_le (length op) 256 then Some (setf_text op)
    else None

abbrev pub setter : Option (List ℕ) → Option (List ℕ)
setter None = None
setter (Some op) = setter_of op
