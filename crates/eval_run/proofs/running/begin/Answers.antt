-- A form begins.
use Rattle.std.proofs.lemmas.Result.{err_from_is_err_and}
use Rattle.eval_run.proofs.Coming.{began_so}
use Rattle.eval_run.proofs.Stopping.{broken}
use Rattle.eval_run.proofs.running.begin.Goals as goal

pub returns-in_err-step-clause-stops : goal.returns-in_err-step-clause-stops
returns-in_err-step-clause-stops c =
    let p = err_from_is_err_and c.from_residual.result c.from_residual.ensures.1 in rw (p.1, p.2) (λ e left left' given given' forms u.
    broken e left left' given given' forms c.args.evaluator.now u)

pub returns-clause-under_way : goal.returns-clause-under_way
returns-clause-under_way c = λ e left left' given given' forms u.
    began_so e left left' given given' forms c.args.evaluator.now c.step.new.self _ c.in_ok-step.ensures c.requires.begins u
