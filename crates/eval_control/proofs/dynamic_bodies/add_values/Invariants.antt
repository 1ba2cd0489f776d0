-- The variables that are made.
use Rattle.eval_state.specs.Frames.{last_of}
use Rattle.eval_control.proofs.DynamicEntered.{IsAdding}
use Rattle.eval_control.proofs.dynamic_bodies.add_values.Given as goal

abbrev pub invariant-loop-at : goal.invariant-loop-at
invariant-loop-at l = IsAdding l.initial.machine l.machine (last_of l.count l.initial.machine.operands.items) l.at
