-- The after methods, above the value of the primary method.
use Rattle.eval_state.proofs.Stepping.{on_ok}
use Rattle.eval_application.proofs.Running.{after_goes}
use Rattle.eval_application.proofs.methods.after_primary.Goals as goal

pub returns : goal.returns
returns c =
    on_ok c.apply_each.result _ _
    (after_goes c.args.machine.now c.push_frame.new.self c.apply_each.new.machine c.args.rest c.args.arguments c.args.word _ c.args.level c.args.around c.after_methods-at.ensures c.in-Ok.ensures)
    c.apply_each.ensures
