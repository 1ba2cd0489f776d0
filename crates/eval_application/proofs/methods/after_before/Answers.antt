-- The first primary method, above the after methods.
use Rattle.std.proofs.Common.{refl}
use Rattle.eval_state.proofs.Stepping.{on_ok}
use Rattle.eval_application.proofs.Running.{primary_goes}
use Rattle.eval_application.proofs.methods.after_before.Goals as goal

pub returns : goal.returns
returns c =
    on_ok c.apply_method.result _ _
    (primary_goes c.args.machine.now c.push_frame.new.self c.apply_method.new.machine c.args.rest c.primary_after-next.result c.in_ok-shared.shared (record { arguments = c.args.arguments; rest = c.primary_after-next.result.rest }) c.args.level c.args.around
    c.primary_after-next.ensures c.in_ok-shared.ensures.cases refl c.in_ok-push_frame.ensures)
    c.apply_method.ensures
