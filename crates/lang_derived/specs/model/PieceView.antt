-- The part of a right side that contracts see: one level of the view.
use Rattle.std.specs.Prelude.{ℕ, length}
use Rattle.lang_derived.specs.Pieces.{Piece, word, made, taken, parens, pieces_of}
use Rattle.lang_derived.specs.declared.piece.PieceKind.{PieceKind}
use Rattle.lang_derived.specs.declared.piece.PieceKind.TheVariants.{Word, Named, Made, Taken, Parens}

abbrev pub view_piece : PieceKind → Piece
view_piece (Word text) = word text.now
view_piece (Named text) = word text
view_piece (Made serial) = made serial
view_piece (Taken datum) = taken datum.now
view_piece (Parens pieces) = parens (pieces_of pieces)

-- how long its text is, where it has one
abbrev pub text_length : PieceKind → ℕ
text_length (Word text) = length text.now
text_length (Named text) = length text
text_length (Made serial) = 0
text_length (Taken datum) = 0
text_length (Parens pieces) = 0
