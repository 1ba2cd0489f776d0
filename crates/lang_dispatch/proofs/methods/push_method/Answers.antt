-- The row is put back, with the method or without it.
use Rattle.lang_dispatch.proofs.Taking.{method_put, row_put, after_ok, after_err}
use Rattle.lang_dispatch.proofs.methods.push_method.Goals as goal

pub returns-clause-ok : goal.returns-clause-ok
returns-clause-ok c =
    after_ok c.push-outcome.result c.push-outcome.ensures.ok
    (λ pushed. method_put _ _ _ _ c.replace-row.result _ _ c.args.method c.replace-row.ensures.was c.replace-row.ensures.now pushed c.replace.ensures.now)

pub returns-clause-err : goal.returns-clause-err
returns-clause-err c =
    after_err c.push-outcome.result c.push-outcome.ensures.err
    (λ kept. row_put _ _ _ _ c.replace-row.result _ _ c.replace-row.ensures.was c.replace-row.ensures.now kept c.replace.ensures.now)
