-- The innermost handler, or none.
use Rattle.eval_state.proofs.Stepping.{on_ok}
use Rattle.eval_application.proofs.Handling.{signal_handled, signal_unhandled}
use Rattle.eval_application.proofs.signalling.signal_under.Goals as goal

pub returns-in_ok-charge-in-Some : goal.returns-in_ok-charge-in-Some
returns-in_ok-charge-in-Some c =
    on_ok c.handle.result _ _
    (signal_handled c.args.machine.now c.begin_signal.new.machine c.charge.new.self c.handle.new.machine c.args.condition c.args.mark c.in-Some.handler c.in_ok-number.number c.args.level c.args.around c.in-Some.ensures c.in_ok-number.ensures c.in_ok-charge-in-Some.ensures)
    c.handle.ensures

pub returns-in-None : goal.returns-in-None
returns-in-None c =
    signal_unhandled c.args.machine.now c.begin_signal.new.machine c.come_to.new.self c.args.condition c.args.mark c.in_ok-number.number c.args.level c.args.around c.in-None.ensures c.in_ok-number.ensures c.come_to.ensures
