-- One method, above those behind it.
use Rattle.std.proofs.Common.{List, length, ap, subst, ◌∙◌}
use Rattle.eval_store.specs.declared.word.Word.{Word}
use Rattle.eval_application.specs.Methods.{ArePushed}
use Rattle.eval_state.proofs.Stepping.{on_ok}
use Rattle.eval_application.proofs.Running.{each_goes}
use Rattle.eval_application.proofs.methods.apply_next.Goals as goal

pub returns : goal.returns
returns c =
    on_ok c.apply_procedure.result _ _
    (each_goes c.args.machine.now c.push_arguments.new.machine c.push_frame.new.self c.apply_procedure.new.machine c.args.list c.args.at c.in_ok-next.next c.in-Some.number.now c.in_ok-count.count c.args.level c.args.arguments c.args.around c.in-Some.ensures c.in_ok-next.ensures
    (subst (ArePushed c.args.machine.now c.push_arguments.new.machine) c.deref.ensures c.in_ok-count.ensures.pushed) (c.in_ok-count.ensures.count ∙ ap (λ (ws : List Word). length ws) c.deref.ensures) c.in_ok-push_frame.ensures)
    c.apply_procedure.ensures
