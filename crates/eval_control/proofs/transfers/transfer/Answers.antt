-- To the exit of a number, or nowhere.
use Rattle.eval_state.specs.Frames.{landing_of}
use Rattle.eval_state.proofs.Stepping.{on_ok}
use Rattle.eval_control.proofs.Leaving.{number_leaves, nowhere_leaves}
use Rattle.eval_control.proofs.transfers.transfer.Goals as goal

pub returns-in-Some : goal.returns-in-Some
returns-in-Some c =
    on_ok c.leave_to.result _ _
    (number_leaves c.args.machine.now c.leave_to.new.machine c.in-Some.number c.args.exit c.args.word (landing_of c.args.landing) c.args.level c.args.around c.in-Some.is)
    c.leave_to.ensures

pub returns-in-None : goal.returns-in-None
returns-in-None c =
    on_ok c.signal_class.result _ _
    (nowhere_leaves c.args.machine.now c.signal_class.new.self c.args.exit c.args.word (landing_of c.args.landing) c.args.level c.args.around c.in-None.is)
    c.signal_class.ensures
