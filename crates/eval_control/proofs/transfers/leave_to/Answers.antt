-- The exit that is found, or a control error.
use Rattle.std.proofs.Common.{subst}
use Rattle.eval_state.specs.Frames.{landing_of}
use Rattle.eval_state.proofs.Stepping.{on_ok}
use Rattle.eval_control.specs.Exits.{IsFound}
use Rattle.eval_control.proofs.Leaving.{found_leaves, none_leaves}
use Rattle.eval_control.proofs.transfers.leave_to.Goals as goal

pub returns-in-Some : goal.returns-in-Some
returns-in-Some c =
    found_leaves c.args.machine.now c.find_exit.new.machine c.come_to.new.self c.args.sought c.args.word (landing_of c.args.landing) c.args.level c.args.around c.in-Some.exit
    (subst (IsFound c.args.machine.now c.find_exit.new.machine c.args.sought c.args.around.exits) c.in-Some.is c.in_ok-exit.ensures) c.come_to.ensures

pub returns-in-None : goal.returns-in-None
returns-in-None c =
    on_ok c.signal_class.result _ _
    (none_leaves c.args.machine.now c.find_exit.new.machine c.signal_class.new.self c.args.sought c.args.word (landing_of c.args.landing) c.args.level c.args.around
    (subst (IsFound c.args.machine.now c.find_exit.new.machine c.args.sought c.args.around.exits) c.in-None.is c.in_ok-exit.ensures))
    c.signal_class.ensures
