-- The variables that are passed are made.
use Rattle.flat_language.specs.FlatMeaning.{binding_homes}
use Rattle.flat_language.specs.model.View.{bindings_of}
use Rattle.eval_state.specs.Frames.{last_of}
use Rattle.eval_state.proofs.NewSlots.{Filling}
use Rattle.eval_state.proofs.machine.Machine.add_bindings.Given as goal

abbrev pub invariant-loop-at : goal.invariant-loop-at
invariant-loop-at l = Filling l.initial.self l.self (binding_homes (bindings_of l.list)) (last_of l.count l.initial.self.operands.items) l.at
