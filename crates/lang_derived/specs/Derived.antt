-- One step of a derived form: the row of the table that the form fits, with its right side (ISO/IEC 13816:2007, 12.7,
-- 13.4, 14, 16, 17 and 29.2).
use Rattle.std.specs.Prelude.{◌≡◌, ℕ, zero, suc, ◌+◌, List, [], ◌∷◌, length, Option, Some, None, if◌then◌else◌}
use Rattle.std.specs.Str.{bytes_eq}
use Rattle.base.specs.declared.datum.Symbol.{Symbol}
use Rattle.base.specs.declared.datum.Symbol.TheVariants.{Fresh}
use Rattle.base.specs.Data.{Item, item, Content, integer, character, symbol, string, vector, nil, list, items_list, Tail, no_tail, dotted, place_of}
use Rattle.base.specs.DataNames.{text_of}
use Rattle.lang_derived.specs.Pieces.{Piece, Right, Builds}
use Rattle.lang_derived.specs.Patterns.{Parts, fit_all}
use Rattle.lang_derived.specs.RightSides.{write_all}
use Rattle.lang_derived.specs.Table.{Row, table, is_derived}

-- one part, with the number of these new symbols
abbrev pub right_of : List Piece → List Piece → Option Right
right_of [] new = None
right_of (x ∷ []) new = Some (record { piece = x; count = length new })
right_of (x ∷ y ∷ xs) new = None

-- what a row makes of the parts of a form
abbrev pub row_right : List (List ℕ) → ℕ → Row → Option Parts → Option Right
row_right names s r None = None
row_right names s r (Some parts) = right_of (write_all names s r.right s parts) (write_all names s r.new s parts)

abbrev pub or_else : Option Right → Option Right → Option Right
or_else None y = y
or_else (Some x) y = Some x

-- what the first row of the name that the data fit makes of them, under a table of names, where new symbols have the
-- serials from s on; none where they fit no row
abbrev pub first_right : List (List ℕ) → ℕ → List Row → List ℕ → List Item → Option Right
first_right names s [] name ds = None
first_right names s (r ∷ rs) name ds =
    let more : Option Right = first_right names s rs name ds in
    if bytes_eq name r.name then or_else (row_right names s r (fit_all names r.parts ds)) more else more

abbrev pub table_right : List (List ℕ) → ℕ → List (List Row) → List ℕ → List Item → Option Right
table_right names s [] name ds = None
table_right names s (rs ∷ gs) name ds = or_else (first_right names s rs name ds) (table_right names s gs name ds)

-- a datum is no derived form, or fits no row, or becomes a right side
pub data Derivation : Type 0 where
  plain : Derivation
  unfit : Derivation
  becomes : Right → Derivation

abbrev pub judged : Option Right → Derivation
judged None = unfit
judged (Some r) = becomes r

-- a list without a dot, under a name of the table, becomes what the table says; a list with a dot fits no row
abbrev pub by_table : List (List ℕ) → ℕ → List ℕ → List Item → Tail → Derivation
by_table names s name ds no_tail = judged (table_right names s table name ds)
by_table names s name ds (dotted d) = unfit

abbrev pub by_name : List (List ℕ) → ℕ → Option (List ℕ) → List Item → Tail → Derivation
by_name names s None ds t = plain
by_name names s (Some name) ds t = if is_derived name then by_table names s name ds t else plain

abbrev pub list_derivation : List (List ℕ) → ℕ → List Item → Tail → Derivation
list_derivation names s [] t = plain
list_derivation names s (head ∷ ds) t = by_name names s (text_of names head) ds t

abbrev pub content_derivation : List (List ℕ) → ℕ → Content → Derivation
content_derivation names s (list ds t) = list_derivation names s (items_list ds) t
content_derivation names s (integer n) = plain
content_derivation names s (character c) = plain
content_derivation names s (symbol x) = plain
content_derivation names s (string bytes) = plain
content_derivation names s (vector ds) = plain
content_derivation names s nil = plain

-- what one step makes of a datum, under a table of names, with serials from s on
unfoldable pub derivation : List (List ℕ) → ℕ → Item → Derivation
derivation names s (item p c) = content_derivation names s c

-- the new symbols with so many serials from s on
abbrev pub new_symbols : ℕ → ℕ → List Symbol
new_symbols s zero = []
new_symbols s (suc n) = Fresh 0 s ∷ new_symbols (s + 1) n

-- `Derives names d s d2 s2`: under this table of names, d2 is the right side of the row that d fits, with
-- the new symbols of the serials from s up to, but not including, s2
pub record Derives (names : List (List ℕ)) (d : Item) (s : ℕ) (d2 : Item) (s2 : ℕ) : Type 0 where
  pub right : Right
  pub fits : derivation names s d ≡ becomes right
  pub builds : Builds names (place_of d) right.piece d2
  pub serials : s2 ≡ s + right.count
