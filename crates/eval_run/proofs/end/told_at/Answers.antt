-- What is told of the condition of an exit is told of the end; of any other end nothing is.
use Rattle.std.proofs.Common.{sym, ap}
use Rattle.std.proofs.lemmas.Result.{IfOk-weaker}
use Rattle.lang_meaning.specs.Meaning as meaning
use Rattle.flat_language.specs.FlatNodes.{tables}
use Rattle.eval_machine.specs.Run.{done}
use Rattle.eval_state.specs.View.{configuration_of}
use Rattle.eval_store.specs.Words.{value_of_word}
use Rattle.eval_run.proofs.Ending.{exit_told, nothing_told}
use Rattle.eval_run.proofs.end.told_at.Goals as goal

pub returns-in-Exit : goal.returns-in-Exit
returns-in-Exit c =
    IfOk-weaker c.tell_condition.result _ _
    (λ told h. λ b.
    exit_told c.args.names.now (tables c.args.evaluator.now.machine.given.program.now) (done (configuration_of c.args.names.now c.args.evaluator.now.machine b)) told
    (value_of_word c.args.names.now c.in-Exit.word) c.in-Exit._number c.in-Exit._landing (ap meaning.end_of (sym (c.in-Exit.ensures c.args.names.now b))) (h b))
    c.tell_condition.ensures

pub returns-in_default : goal.returns-in_default
returns-in_default c = λ b.
    nothing_told c.args.names.now (tables c.args.evaluator.now.machine.given.program.now) (done (configuration_of c.args.names.now c.args.evaluator.now.machine b)) c.new.result
    c.outcome.result c.in_default.not-Exit (ap meaning.end_of (sym (c.outcome.ensures c.args.names.now b))) c.new.ensures
