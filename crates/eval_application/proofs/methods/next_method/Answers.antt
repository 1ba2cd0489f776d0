-- What is left to the method runs; or a control error.
use Rattle.eval_state.proofs.Stepping.{on_ok}
use Rattle.eval_application.proofs.Running.{next_goes, no_next}
use Rattle.eval_application.proofs.methods.next_method.Goals as goal

pub returns-in-Some : goal.returns-in-Some
returns-in-Some c =
    on_ok c.run_chain.result _ _
    (next_goes c.args.machine.now c.run_chain.new.machine c.args.called c.in-Some.called c.args.situation c.in-Some.is)
    c.run_chain.ensures

pub returns-in-None : goal.returns-in-None
returns-in-None c =
    on_ok c.signal_class.result _ _
    (no_next c.args.machine.now c.signal_class.new.self c.args.called c.args.situation c.in-None.is)
    c.signal_class.ensures
