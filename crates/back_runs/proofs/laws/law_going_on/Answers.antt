use Rattle.back_runs.proofs.Ending.{law_of_going_on}
use Rattle.back_runs.proofs.laws.law_going_on.Goals as goal

pub returns : goal.returns
returns c = law_of_going_on
