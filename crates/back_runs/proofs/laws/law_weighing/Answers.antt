use Rattle.back_runs.proofs.Weighing.{law_of_weighing}
use Rattle.back_runs.proofs.laws.law_weighing.Goals as goal

pub returns : goal.returns
returns c = law_of_weighing
