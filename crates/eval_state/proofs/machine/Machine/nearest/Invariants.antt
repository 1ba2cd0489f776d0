-- No frame between those that are left and the link links.
use Rattle.eval_state.proofs.Nearest.{IsSearched}
use Rattle.eval_state.proofs.machine.Machine.nearest.Given as goal

abbrev pub invariant-loop-left : goal.invariant-loop-left
invariant-loop-left l = IsSearched l.kind l.self.frames.items l.left l.link

abbrev pub decreases-loop-left : goal.decreases-loop-left
decreases-loop-left l = l.left
