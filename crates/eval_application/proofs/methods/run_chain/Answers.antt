-- The first around method, or the others.
use Rattle.std.proofs.Common.{refl}
use Rattle.eval_state.proofs.Stepping.{on_ok}
use Rattle.eval_application.proofs.Running.{around_goes, no_around}
use Rattle.eval_application.proofs.methods.run_chain.Goals as goal

pub returns-in-Some : goal.returns-in-Some
returns-in-Some c =
    on_ok c.apply_method.result _ _
    (around_goes c.args.machine.now c.apply_method.new.machine c.args.rest c.in-Some.next (record { arguments = c.args.arguments; rest = c.in-Some.next.rest }) c.args.level c.args.around c.in-Some.ensures refl)
    c.apply_method.ensures

pub returns-in-None : goal.returns-in-None
returns-in-None c =
    on_ok c.run_primary.result _ _
    (no_around c.args.machine.now c.run_primary.new.machine c.args.rest c.args.arguments.value c.args.level c.args.around c.in-None.ensures)
    c.run_primary.ensures
