-- The code of a part of a right side: a tree that gives it back.
use Rattle.std.specs.Prelude.{◌≡◌, zero, suc, ℕ, refl}
use Rattle.std.specs.Coded.{Coded, code_by, coded×, coded_ℕ}
use Rattle.std.proofs.Common.{ap}
use Rattle.base.specs.model.CodedTree.{Tree, node, Trees, no_tree, tree_and, leaf, above_one, numbers_trees, numbers_of, numbers_back, tree_code}
use Rattle.base.specs.model.DataCode.{item_tree, item_of, item_back}
use Rattle.lang_derived.specs.Pieces.{Piece, word, made, taken, parens, Pieces, no_piece, piece_and, Right}

abbrev mutual
  piece_tree : Piece → Tree
  piece_tree (word text) = node 0 (numbers_trees text)
  piece_tree (made serial) = above_one 1 (leaf serial)
  piece_tree (taken d) = above_one 2 (item_tree d)
  piece_tree (parens xs) = node 3 (pieces_trees xs)

  pieces_trees : Pieces → Trees
  pieces_trees no_piece = no_tree
  pieces_trees (piece_and x xs) = tree_and (piece_tree x) (pieces_trees xs)

abbrev mutual
  piece_of : Tree → Piece
  piece_of (node zero ts) = word (numbers_of ts)
  piece_of (node (suc zero) (tree_and (node serial us) ts)) = made serial
  piece_of (node (suc (suc zero)) (tree_and t ts)) = taken (item_of t)
  piece_of (node n ts) = parens (pieces_of_trees ts)

  pieces_of_trees : Trees → Pieces
  pieces_of_trees no_tree = no_piece
  pieces_of_trees (tree_and t ts) = piece_and (piece_of t) (pieces_of_trees ts)

mutual
  piece_back : (x : Piece) → piece_of (piece_tree x) ≡ x
  piece_back (word text) = ap word (numbers_back text)
  piece_back (made serial) = refl
  piece_back (taken d) = ap taken (item_back d)
  piece_back (parens xs) = ap parens (pieces_back xs)

  pieces_back : (xs : Pieces) → pieces_of_trees (pieces_trees xs) ≡ xs
  pieces_back no_piece = refl
  pieces_back (piece_and x xs) = cc (piece_back x, pieces_back xs)

pub piece_code : Coded Piece
piece_code = code_by Tree tree_code piece_tree piece_of piece_back

abbrev pub right_code : Coded Right
right_code =
    code_by (Piece × ℕ) (coded× piece_code coded_ℕ) (λ r. (r.piece, r.count)) (λ p. record { piece = p.0; count = p.1 }) (λ _. refl)
