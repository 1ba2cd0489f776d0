-- The rests have the same ones where the lists have.
use Rattle.front_cells.proofs.Flagging.{HaveSameFrom}
use Rattle.front_cells.proofs.copies.have_same_common.Given as goal

abbrev pub invariant-loop-turn : goal.invariant-loop-turn
invariant-loop-turn l = HaveSameFrom l.flags l.list l.other l.at l.place
