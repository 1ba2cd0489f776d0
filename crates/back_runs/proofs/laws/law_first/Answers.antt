use Rattle.back_runs.proofs.Starting.{law_of_first}
use Rattle.back_runs.proofs.laws.law_first.Goals as goal

pub returns : goal.returns
returns c = law_of_first
