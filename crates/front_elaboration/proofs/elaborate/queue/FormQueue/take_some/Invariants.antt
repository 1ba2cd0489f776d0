-- What was taken stands in front of what is still to be taken.
use Rattle.std.proofs.Common.{◌≡◌, ◌++◌, take, drop}
use Rattle.front_elaboration.proofs.elaborate.queue.FormQueue.take_some.Given as goal

abbrev pub invariant-loop-left : goal.invariant-loop-left
invariant-loop-left l = (l.forms ++ take l.left l.self ≡ take l.count l.fn.self) × (drop l.left l.self ≡ drop l.count l.fn.self)

abbrev pub decreases-loop-left : goal.decreases-loop-left
decreases-loop-left l = l.left
