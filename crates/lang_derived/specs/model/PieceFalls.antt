-- Each part in parentheses is smaller than the parentheses.
use Rattle.std.specs.Prelude.{◌+◌, ◌≤◌, max, List, [], ◌∷◌}
use Rattle.std.proofs.Common.{arith}
use denote.Param.Weighed.{most}
use Rattle.lang_derived.specs.Pieces.{Piece, piece_size, pieces_size, pieces_of}
use Rattle.lang_derived.specs.model.PieceView.{view_piece}
use Rattle.lang_derived.specs.declared.piece.PieceKind.{PieceKind}
use Rattle.lang_derived.specs.declared.piece.PieceKind.TheVariants.{Word, Named, Made, Taken, Parens}
use Rattle.lang_derived.specs.declared.piece.Piece.TheDeep.{deep-PieceKind}

pieces_fall : (xs : List Piece) → most (λ x. piece_size x + 1) xs ≤ pieces_size (pieces_of xs)
pieces_fall [] = omega arith
pieces_fall (x ∷ xs) = omega (arith, pieces_fall xs)

pub falls : (k : PieceKind) → max (deep-PieceKind k) 0 ≤ piece_size (view_piece k)
falls (Word text) = omega arith
falls (Named text) = omega arith
falls (Made serial) = omega arith
falls (Taken datum) = omega arith
falls (Parens pieces) = omega (arith, pieces_fall pieces)
