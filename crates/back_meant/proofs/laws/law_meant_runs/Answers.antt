use Rattle.back_meant.proofs.Meant.{law_of_meant_runs}
use Rattle.back_meant.proofs.laws.law_meant_runs.Goals as goal

pub returns : goal.returns
returns c = law_of_meant_runs
