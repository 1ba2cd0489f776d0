-- The sizes of the parts fall; a loop has built what it has passed, under the names that it has then.
use Rattle.std.proofs.Common.{take}
use Rattle.base.specs.Data.{items_of}
use Rattle.base.specs.Names.{Extends}
use Rattle.lang_derived.specs.Pieces.{piece_size, pieces_size, pieces_of, BuildsAll}
use Rattle.lang_derived.proofs.build.+build.Given as goal

abbrev pub decreases-build : goal.decreases-build
decreases-build l = piece_size l.piece.now

abbrev pub decreases-build_all : goal.decreases-build_all
decreases-build_all l = pieces_size (pieces_of l.pieces.now)

abbrev pub invariant-build_all-loop-piece : goal.invariant-build_all-loop-piece
invariant-build_all-loop-piece l = record {
  built : BuildsAll l.names l.place (pieces_of (take l.piece-index l.pieces)) (items_of l.items);
  later : Extends l.initial.names l.names;
}
