use Rattle.flat_laws.proofs.Runs.{law_of_flat_growth}
use Rattle.flat_laws.proofs.laws.law_flat_growth.Goals as goal

pub returns : goal.returns
returns c = law_of_flat_growth
