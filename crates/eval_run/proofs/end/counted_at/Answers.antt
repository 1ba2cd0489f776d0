-- What is told of the end is told beside it.
use Rattle.std.proofs.Common.{subst}
use Rattle.flat_language.specs.FlatNodes.{tables}
use Rattle.eval_machine.specs.Run.{done}
use Rattle.eval_state.specs.View.{configuration_of}
use Rattle.eval_run.specs.Telling.{TellsOf}
use Rattle.eval_run.proofs.end.counted_at.Goals as goal

pub returns-clause-told : goal.returns-clause-told
returns-clause-told c = λ b.
    subst
    (λ end.
    TellsOf end c.args.names.now (tables c.args.evaluator.now.machine.given.program.now) (done (configuration_of c.args.names.now c.args.evaluator.now.machine b)) c.in_ok-told.told)
    (c.end_at.ensures c.args.names.now b) (c.in_ok-told.ensures b)
