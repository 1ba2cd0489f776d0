-- The words of the stack, and then the rest.
use Rattle.eval_state.proofs.Doing.{over_ok}
use Rattle.eval_application.proofs.Entries.{words_then, words_filled, has_stack, no_stack}
use Rattle.eval_application.proofs.entering.take_words.Goals as goal

pub returns-then-granted : goal.returns-then-granted
returns-then-granted c =
    over_ok c.gather.result
    (words_then c.args.machine.now c.take_stack.new.machine c.gather.new.machine c.args.procedure c.args.count c.args.procedure.level c.args.procedure.around c.requires.held (has_stack _ _ _ _ _ c.in-Ok.ensures c.if-granted.true))
    c.gather.ensures

pub returns-else-granted : goal.returns-else-granted
returns-else-granted c = words_filled c.args.machine.now c.take_stack.new.machine c.drop_operands.new.self c.args.procedure c.args.count c.args.procedure.level c.args.procedure.around c.requires.held (no_stack _ _ _ _ _ c.in-Ok.ensures c.if-granted.false) c.drop_operands.ensures
