-- The spelling that is printed for a datum, and what it is to read it again.
use Rattle.std.specs.Prelude.{◌≡◌, ℕ, ◌≤◌, Bool, true, false, not, ◌&&◌, ◌||◌, ◌==◌, List, [], ◌∷◌, ◌++◌, length, Option, Some, None, slice_get, slice_index_or, if◌then◌else◌, codes}
use Rattle.std.specs.List.{list_all}
use Rattle.std.specs.Str.{bytes_eq}
use Rattle.std.specs.Fmt.{signed_decimal}
use Rattle.base.specs.declared.place.Place.{Place}
use Rattle.base.specs.declared.datum.Symbol.{Symbol}
use Rattle.base.specs.declared.datum.Symbol.TheVariants.{Named, Fresh}
use Rattle.base.specs.Data.{Item, item, Content, integer, character, symbol, string, vector, nil, list, Items, no_item, item_and, Tail, no_tail, dotted}
use Rattle.front_reader.specs.Characters.{begins, is_token, is_capital, is_printed}
use Rattle.front_reader.specs.Tokens.{is_integer, is_float, is_dot}
use Rattle.front_reader.specs.Reads.{Text}

-- the name of a symbol
abbrev pub symbol_text : List (List ℕ) → Symbol → List ℕ
symbol_text names (Named name) = slice_index_or names name.0 []
symbol_text names (Fresh expansion serial) = []

-- a byte of tokens that is not folded
abbrev pub stays : ℕ → Bool
stays b = is_token b && not (is_capital b)

-- a token that spells the symbol of that very name
unfoldable pub is_bare : List ℕ → Bool
is_bare w = begins is_token w && (list_all stays w && (not (is_integer 10 w) && (not (is_float w) && not (is_dot w))))

-- the bytes with `\` before each quote and each `\`
abbrev pub escapes : ℕ → List ℕ → List ℕ
escapes quote [] = []
escapes quote (b ∷ bs) = if b == quote || b == 92 then 92 ∷ b ∷ escapes quote bs else b ∷ escapes quote bs

-- bytes between two quotes
abbrev pub between : ℕ → List ℕ → List ℕ
between quote bs = quote ∷ (escapes quote bs ++ quote ∷ [])

-- a symbol stands in bars unless its name is a token that spells it
abbrev pub name_spelling : List ℕ → List ℕ
name_spelling text = if is_bare text then text else between 124 text

-- no space before the first datum of a list, and one before each other
abbrev pub gap_before : ℕ → List ℕ
gap_before at = if at == 0 then [] else 32 ∷ []

-- the spelling of a datum, with one space between the data of a list; a prefix is the list that it stands for
unfoldable mutual
  pub spelling : List (List ℕ) → Item → List ℕ
  spelling names (item p c) = content_spelling names c

  pub content_spelling : List (List ℕ) → Content → List ℕ
  content_spelling names (integer n) = signed_decimal n
  content_spelling names (character c) = 35 ∷ 92 ∷ c ∷ []
  content_spelling names (symbol s) = name_spelling (symbol_text names s)
  content_spelling names (string bytes) = between 34 bytes
  content_spelling names (vector ds) = 35 ∷ 40 ∷ (items_spelling names [] ds ++ 41 ∷ [])
  content_spelling names nil = codes "nil"
  content_spelling names (list ds t) = 40 ∷ (items_spelling names [] ds ++ (tail_spelling names t ++ 41 ∷ []))

  -- data, the first behind this gap and the others behind a space
  pub items_spelling : List (List ℕ) → List ℕ → Items → List ℕ
  items_spelling names gap no_item = []
  items_spelling names gap (item_and d ds) = gap ++ (spelling names d ++ items_spelling names (32 ∷ []) ds)

  pub tail_spelling : List (List ℕ) → Tail → List ℕ
  tail_spelling names no_tail = []
  tail_spelling names (dotted d) = codes " . " ++ spelling names d

-- a text that a spelling can give as a name
abbrev pub NameSpelled : Option (List ℕ) → Type 0
NameSpelled None = ⊥
NameSpelled (Some text) = (bytes_eq text (codes "nil") ≡ false) × (length text ≤ 256) × (list_all is_printed text ≡ true)

abbrev pub SymbolSpelled : List (List ℕ) → Symbol → Type 0
SymbolSpelled names (Named name) = NameSpelled (slice_get names name.0)
SymbolSpelled names (Fresh expansion serial) = ⊥

-- each symbol of the datum has a name in the table that is not `nil`, with at most 256 bytes from 32 to 126
unfoldable mutual
  pub IsSpelled : List (List ℕ) → Item → Type 0
  IsSpelled names (item p c) = ContentSpelled names c

  pub ContentSpelled : List (List ℕ) → Content → Type 0
  ContentSpelled names (integer n) = Unit {0}
  ContentSpelled names (character c) = Unit {0}
  ContentSpelled names (symbol s) = SymbolSpelled names s
  ContentSpelled names (string bytes) = Unit {0}
  ContentSpelled names (vector ds) = AllSpelled names ds
  ContentSpelled names nil = Unit {0}
  ContentSpelled names (list ds t) = AllSpelled names ds × TailSpelled names t

  pub AllSpelled : List (List ℕ) → Items → Type 0
  AllSpelled names no_item = Unit {0}
  AllSpelled names (item_and d ds) = IsSpelled names d × AllSpelled names ds

  pub TailSpelled : List (List ℕ) → Tail → Type 0
  TailSpelled names no_tail = Unit {0}
  TailSpelled names (dotted d) = IsSpelled names d

abbrev pub nowhere : Place
nowhere = record { line = 0; column = 0 }

-- the datum, places aside
abbrev mutual
  pub unplaced : Item → Item
  unplaced (item p c) = item nowhere (content_unplaced c)

  pub content_unplaced : Content → Content
  content_unplaced (integer n) = integer n
  content_unplaced (character c) = character c
  content_unplaced (symbol s) = symbol s
  content_unplaced (string bytes) = string bytes
  content_unplaced (vector ds) = vector (items_unplaced ds)
  content_unplaced nil = nil
  content_unplaced (list ds t) = list (items_unplaced ds) (tail_unplaced t)

  pub items_unplaced : Items → Items
  items_unplaced no_item = no_item
  items_unplaced (item_and d ds) = item_and (unplaced d) (items_unplaced ds)

  pub tail_unplaced : Tail → Tail
  tail_unplaced no_tail = no_tail
  tail_unplaced (dotted d) = dotted (unplaced d)

-- the whole text at place p spells one datum, and that is this one, places aside
pub record ReadAgain (names : List (List ℕ)) (text : List ℕ) (p : Place) (d : Item) : Type 0 where
  pub datum : Item
  pub same : unplaced datum ≡ unplaced d
  pub reads : Text names text p (datum ∷ [])
