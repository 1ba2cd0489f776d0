-- Flags are set for the methods that are left alone.
use Rattle.std.proofs.Common.{map, drop}
use Rattle.front_cells.proofs.Flagging.{AreClearedBut, class_of}
use Rattle.front_cells.proofs.flags.unmark.Given as goal

abbrev pub invariant-loop-method : goal.invariant-loop-method
invariant-loop-method l = AreClearedBut (map (class_of l.argument) (drop l.method-index l.generic.methods)) l.flags
