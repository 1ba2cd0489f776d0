-- The variables that are passed are made.
use Rattle.flat_language.specs.FlatNodes.{homes}
use Rattle.eval_state.specs.Frames.{last_of}
use Rattle.eval_state.proofs.NewSlots.{Filling}
use Rattle.eval_application.proofs.variables.add_variables.Given as goal

abbrev pub invariant-loop-at : goal.invariant-loop-at
invariant-loop-at l = Filling l.initial.machine l.machine (homes l.procedure) (last_of l.count l.initial.machine.operands.items) l.at
