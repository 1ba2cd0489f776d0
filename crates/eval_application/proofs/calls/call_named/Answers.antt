-- The function of the name is applied.
use Rattle.eval_state.proofs.Stepping.{on_ok}
use Rattle.eval_application.proofs.NamedCalls.{named}
use Rattle.eval_application.proofs.calls.call_named.Goals as goal

pub returns : goal.returns
returns c =
    on_ok c.apply_name.result _ _
    (named c.args.machine.now c.apply_name.new.machine c.args.name.0 c.args.operands c.args.situation)
    c.apply_name.ensures
