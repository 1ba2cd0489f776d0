-- The number of arguments is judged.
use Rattle.std.proofs.Common.{sym, ◌∙◌}
use Rattle.eval_state.proofs.Doing.{over_ok}
use Rattle.eval_application.proofs.Judged.{taken, not_taken}
use Rattle.eval_application.proofs.entering.enter_procedure.Goals as goal

pub returns-then-takes_arguments : goal.returns-then-takes_arguments
returns-then-takes_arguments c =
    over_ok c.take_words.result
    (taken c.args.machine.now c.take_words.new.machine c.args.procedure c.args.operands c.held_operands-count.result c.args.procedure.level c.args.procedure.around c.held_operands-count.ensures (sym c.takes_arguments.ensures ∙ c.if-takes_arguments.true))
    c.take_words.ensures

pub returns-else-takes_arguments : goal.returns-else-takes_arguments
returns-else-takes_arguments c =
    over_ok c.signal_class.result
    (not_taken c.args.machine.now c.drop_operands.new.self c.signal_class.new.self c.args.procedure c.args.operands c.held_operands-count.result c.args.procedure.level c.args.procedure.around c.held_operands-count.ensures (sym c.takes_arguments.ensures ∙ c.if-takes_arguments.false) c.drop_operands.ensures)
    c.signal_class.ensures
