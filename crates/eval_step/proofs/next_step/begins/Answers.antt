-- Each other form begins as itself.
use Rattle.eval_step.proofs.Reading.{other_begins}
use Rattle.eval_step.proofs.next_step.begins.Goals as goal

pub returns-in_default : goal.returns-in_default
returns-in_default c = other_begins c.args.form.now c.in_default.not-Sited
