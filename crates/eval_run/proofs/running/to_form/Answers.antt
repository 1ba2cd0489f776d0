-- It has come to the next form, or to the end.
use Rattle.std.proofs.lemmas.Result.{err_from_is_err_and}
use Rattle.eval_run.proofs.Coming.{came}
use Rattle.eval_run.proofs.Stopping.{broken}
use Rattle.eval_run.proofs.running.to_form.Goals as goal

pub returns-in_err-more-clause-stops : goal.returns-in_err-more-clause-stops
returns-in_err-more-clause-stops c =
    let p = err_from_is_err_and c.from_residual.result c.from_residual.ensures.1 in rw (p.1, p.2) (λ e left left' given given' forms u.
    broken e left left' given given' forms c.args.evaluator.now u)

pub returns-clause-under_way : goal.returns-clause-under_way
returns-clause-under_way c = λ e left left' given given' forms u.
    came e left left' given given' forms c.args.evaluator.now c.to_form.new.self c.in_ok-more.ensures.count c.in_ok-more.ensures.reached u
