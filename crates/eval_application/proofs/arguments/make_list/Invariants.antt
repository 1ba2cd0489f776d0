-- The list of the last operands, so many as were taken.
use Rattle.eval_machine.specs.Applications.{listed}
use Rattle.eval_store.specs.View.{limit_of}
use Rattle.eval_state.specs.View.{top}
use Rattle.eval_state.specs.Doing.{Gives}
use Rattle.eval_application.proofs.arguments.make_list.Given as goal

abbrev pub invariant-loop-taken : goal.invariant-loop-taken
invariant-loop-taken l = Gives l.initial.machine l.machine (λ names z. listed (limit_of l.initial.machine.given.limit) (top names l.initial.machine l.taken) z) l.tail
