-- How far they are passed.
use Rattle.eval_control.proofs.OwnExits.{IsPassing}
use Rattle.eval_control.proofs.own_exits.own_behind.Given as goal

abbrev pub invariant-loop-frame : goal.invariant-loop-frame
invariant-loop-frame l = IsPassing l.machine.frames.items l.link l.others l.left l.more

abbrev pub decreases-loop-frame : goal.decreases-loop-frame
decreases-loop-frame l = l.left
