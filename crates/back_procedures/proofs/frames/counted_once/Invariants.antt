-- The registers from one on are marked, and counted once.
use Rattle.std.proofs.Common.{drop}
use Rattle.back_procedures.proofs.Counting.{AreCounted}
use Rattle.back_procedures.proofs.frames.counted_once.Given as goal

abbrev pub invariant-loop-at : goal.invariant-loop-at
invariant-loop-at l = AreCounted l.enough (drop l.at l.list) l.flags l.count
