use Rattle.back_runs.proofs.Doing.{law_of_machine_runs}
use Rattle.back_runs.proofs.laws.law_machine_runs.Goals as goal

pub returns : goal.returns
returns c = law_of_machine_runs
