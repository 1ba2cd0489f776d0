-- How far they are counted.
use Rattle.eval_control.proofs.OwnExits.{IsCounting}
use Rattle.eval_control.proofs.own_exits.own_count.Given as goal

abbrev pub invariant-loop-frame : goal.invariant-loop-frame
invariant-loop-frame l = IsCounting l.machine.frames.items l.link l.left l.count

abbrev pub decreases-loop-frame : goal.decreases-loop-frame
decreases-loop-frame l = l.left
