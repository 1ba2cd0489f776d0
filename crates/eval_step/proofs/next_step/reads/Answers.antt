-- No other form reads.
use Rattle.eval_step.proofs.Reading.{other_reads_nothing}
use Rattle.eval_step.proofs.next_step.reads.Goals as goal

pub returns-in_default : goal.returns-in_default
returns-in_default c = other_reads_nothing c.args.form.now c.in_default.not-Prim
