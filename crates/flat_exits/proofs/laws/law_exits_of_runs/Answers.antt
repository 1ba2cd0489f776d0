use Rattle.flat_exits.proofs.Runs.{law_of_exits_of_runs}
use Rattle.flat_exits.proofs.laws.law_exits_of_runs.Goals as goal

pub returns : goal.returns
returns c = law_of_exits_of_runs
