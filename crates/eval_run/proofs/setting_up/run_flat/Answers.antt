-- Where there is no memory for the initial heap, the run breaks off before it begins.
use Rattle.std.proofs.lemmas.Result.{err_from_is_err_and}
use Rattle.eval_run.proofs.Before.{stopped_before}
use Rattle.eval_run.proofs.setting_up.run_flat.Goals as goal

pub returns-in_err-layout-clause-stops : goal.returns-in_err-layout-clause-stops
returns-in_err-layout-clause-stops g c =
    let p = err_from_is_err_and c.from_residual.result c.from_residual.ensures.1 in
    rw (p.1, p.2) (λ rows made. stopped_before _ _ _)
