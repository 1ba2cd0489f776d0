use Rattle.flat_unlimited.proofs.Runs.{law_of_unlimited_runs}
use Rattle.flat_unlimited.proofs.laws.law_unlimited_runs.Goals as goal

pub returns : goal.returns
returns c = law_of_unlimited_runs
