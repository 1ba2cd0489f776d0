-- The evaluator is under way before its first step.
use Rattle.std.proofs.Common.{refl}
use Rattle.std.proofs.lemmas.Result.{err_from_is_err_and}
use Rattle.eval_run.proofs.Before.{stopped_before}
use Rattle.eval_run.proofs.Outset.{run_ends, run_stops}
use Rattle.eval_run.proofs.setting_up.run_fitted.Goals as goal

pub returns-in_err-evaluator-clause-stops : goal.returns-in_err-evaluator-clause-stops
returns-in_err-evaluator-clause-stops g c =
    let p = err_from_is_err_and c.from_residual.result c.from_residual.ensures.1 in
    rw (p.1, p.2) (λ ready rows made. stopped_before _ _ _)

pub returns-clause-ends : goal.returns-clause-ends
returns-clause-ends g c =
    run_ends c.args.names.now _ c.args.store c.args.levels c.args.words c.in_ok-evaluator.evaluator refl c.requires.sizes c.requires.dispatch c.in_ok-evaluator.ensures _ _ _ _ c.run.result
    c.run.ensures.ends

pub returns-clause-stops : goal.returns-clause-stops
returns-clause-stops g c =
    run_stops c.args.names.now _ c.args.store c.args.levels c.args.words c.in_ok-evaluator.evaluator refl c.requires.sizes c.requires.dispatch c.in_ok-evaluator.ensures _ _ _ _ c.run.result
    c.run.ensures.stops
