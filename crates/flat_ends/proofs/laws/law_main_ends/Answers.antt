use Rattle.flat_ends.proofs.Runs.{law_of_main_ends}
use Rattle.flat_ends.proofs.laws.law_main_ends.Goals as goal

pub returns : goal.returns
returns c = law_of_main_ends
