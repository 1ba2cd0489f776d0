-- What the turns of a loop over a list have come to, before what the rest of the list comes to.
use Rattle.std.specs.Prelude.{◌≡◌, List, [], ◌∷◌, ◌++◌, Option, Some, None}
use Rattle.base.specs.declared.datum.Symbol.{Symbol}
use Rattle.lang_derived.specs.Pieces.{Piece, Pieces, piece_and}

abbrev pub before : {X : Type 0} → List X → Option (List X) → Option (List X)
before xs None = None
before xs (Some ys) = Some (xs ++ ys)

-- the same of parts of a right side
abbrev pub pieces_before : List Piece → Pieces → Pieces
pieces_before [] ys = ys
pieces_before (x ∷ xs) ys = piece_and x (pieces_before xs ys)

-- the earlier list is a prefix of the later one
pub record IsPrefix (earlier later : List Symbol) : Type 0 where
  pub rest : List Symbol
  pub is : later ≡ earlier ++ rest
