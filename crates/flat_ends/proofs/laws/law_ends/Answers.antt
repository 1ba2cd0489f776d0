use Rattle.flat_ends.proofs.Runs.{law_of_ends}
use Rattle.flat_ends.proofs.laws.law_ends.Goals as goal

pub returns : goal.returns
returns c = law_of_ends
