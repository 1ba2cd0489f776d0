use Rattle.std.proofs.Common.{length}
use Rattle.back_allocation.specs.Constants.{AreConstants}
use Rattle.back_allocation.proofs.constants.check_all.Given as goal

abbrev pub invariant-loop-at : goal.invariant-loop-at
invariant-loop-at l = AreConstants l.lines l.at l.parameters (length l.fn.constants) l.constants
