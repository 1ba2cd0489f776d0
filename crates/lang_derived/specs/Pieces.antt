-- Right sides of rows of derived forms: what a step writes, what it makes and what it takes over.
use Rattle.std.specs.Prelude.{◌≡◌, ℕ, ◌+◌, List, [], ◌∷◌, Some, slice_get}
use Rattle.base.specs.declared.place.Place.{Place}
use Rattle.base.specs.declared.datum.Symbol.TheVariants.{Named, Fresh}
use Rattle.base.specs.Data.{Item, item, Content, symbol, nil, list, Items, no_item, item_and, no_tail}

mutual
  -- a part of a right side: the symbol of a text, the new symbol of a serial, a part of the form, or parts
  -- in parentheses
  pub data Piece : Type 0 where
    word : List ℕ → Piece
    made : ℕ → Piece
    taken : Item → Piece
    parens : Pieces → Piece

  pub data Pieces : Type 0 where
    no_piece : Pieces
    piece_and : Piece → Pieces → Pieces

-- a list of parts as the mirror's
abbrev pub pieces_of : List Piece → Pieces
pieces_of [] = no_piece
pieces_of (x ∷ xs) = piece_and x (pieces_of xs)

-- parts in parentheses
abbrev pub listed : List Piece → Piece
listed xs = parens (pieces_of xs)

-- a form: a name, and what stands behind it
abbrev pub form : List ℕ → List Piece → Piece
form name xs = listed (word name ∷ xs)

-- parts of the form, in their order
abbrev pub all_taken : List Item → List Piece
all_taken [] = []
all_taken (d ∷ ds) = taken d ∷ all_taken ds

-- a right side, and how many new symbols it has
pub record Right : Type 0 where
  pub piece : Piece
  pub count : ℕ

-- sizes by which recursions over parts end
abbrev mutual
  pub piece_size : Piece → ℕ
  piece_size (word text) = 1
  piece_size (made serial) = 1
  piece_size (taken d) = 1
  piece_size (parens xs) = pieces_size xs + 1

  pub pieces_size : Pieces → ℕ
  pieces_size no_piece = 1
  pieces_size (piece_and x xs) = piece_size x + pieces_size xs + 1

-- what parentheses hold: `()` is nil
abbrev pub in_parens : Items → Content
in_parens no_item = nil
in_parens (item_and d ds) = list (item_and d ds) no_tail

-- `Builds names p x d`: under this table of names, the part x of the right side for a form at place p is
-- the datum d. What the step writes or makes has the place of the form, and what it takes over keeps its own.
unfoldable mutual
  pub Builds : List (List ℕ) → Place → Piece → Item → Type 0
  Builds names p (word text) d =
      (n : ℕ) × ((slice_get names n ≡ Some text) × (d ≡ item p (symbol (Named (record { 0 = n })))))
  Builds names p (made serial) d = d ≡ item p (symbol (Fresh 0 serial))
  Builds names p (taken e) d = d ≡ e
  Builds names p (parens xs) d = (ds : Items) × (BuildsAll names p xs ds × (d ≡ item p (in_parens ds)))

  pub BuildsAll : List (List ℕ) → Place → Pieces → Items → Type 0
  BuildsAll names p no_piece ds = ds ≡ no_item
  BuildsAll names p (piece_and x xs) ds =
      (e : Item) × ((es : Items) × (Builds names p x e × BuildsAll names p xs es × (ds ≡ item_and e es)))
