-- What the method was called with is found, and then its next method runs.
use Rattle.eval_state.proofs.Stepping.{on_ok}
use Rattle.eval_application.proofs.NamedCalls.{next_at}
use Rattle.eval_application.proofs.calls.next_method_at.Goals as goal

pub returns : goal.returns
returns c =
    on_ok c.next_method.result _ _
    (next_at c.args.machine.now c.next_method.new.machine c.args.place c.in_ok-called.called c.args.situation c.in_ok-called.ensures)
    c.next_method.ensures
