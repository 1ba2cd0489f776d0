-- The end of the run that was counted is that of the evaluation.
use Rattle.eval_run.proofs.evaluating.evaluate.Goals as goal

pub returns-in-Ok-clause-runs : goal.returns-in-Ok-clause-runs
returns-in-Ok-clause-runs g c = c.in-Ok.ensures.runs.has_run
