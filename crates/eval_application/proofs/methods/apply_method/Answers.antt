-- The arguments are operands, and the procedure of the method is applied to them.
use Rattle.std.proofs.Common.{List, length, ap, subst, ◌∙◌}
use Rattle.eval_store.specs.declared.word.Word.{Word}
use Rattle.eval_application.specs.Methods.{ArePushed}
use Rattle.eval_application.proofs.Running.{method_applied}
use Rattle.eval_state.proofs.Stepping.{on_ok}
use Rattle.eval_application.proofs.methods.apply_method.Goals as goal

pub returns : goal.returns
returns c =
    on_ok c.apply_procedure.result _ _
    (method_applied c.args.machine.now c.push_arguments.new.machine c.apply_procedure.new.machine c.args.number c.in_ok-count.count c.args.level c.args.called c.args.around
    (subst (ArePushed c.args.machine.now c.push_arguments.new.machine) c.deref.ensures c.in_ok-count.ensures.pushed) (c.in_ok-count.ensures.count ∙ ap (λ (ws : List Word). length ws) c.deref.ensures))
    c.apply_procedure.ensures
