-- The element of a vector is judged by its value.
use Rattle.back_leaves.proofs.applying.judge_quick.Goals as goal

pub returns-in-Element-clause-ready : goal.returns-in-Element-clause-ready
returns-in-Element-clause-ready c = rw c.in-Element.is c.judge_applied-in-Element.ensures.ready
