use Rattle.flat_laws.proofs.Runs.{law_of_flat_runs}
use Rattle.flat_laws.proofs.laws.law_flat_runs.Goals as goal

pub returns : goal.returns
returns c = law_of_flat_runs
