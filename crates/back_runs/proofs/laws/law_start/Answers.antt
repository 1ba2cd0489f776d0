use Rattle.back_runs.proofs.Starting.{law_of_start}
use Rattle.back_runs.proofs.laws.law_start.Goals as goal

pub returns : goal.returns
returns c = law_of_start
