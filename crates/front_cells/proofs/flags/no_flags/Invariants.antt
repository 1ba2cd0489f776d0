-- None is set.
use Rattle.std.proofs.Common.{[]}
use Rattle.front_cells.specs.Flags.{AreFlags}
use Rattle.front_cells.proofs.flags.no_flags.Given as goal

abbrev pub invariant-loop-class : goal.invariant-loop-class
invariant-loop-class l = AreFlags [] l.flags
