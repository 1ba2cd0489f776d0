use Rattle.flat_ends.proofs.Leaving.{law_of_sites}
use Rattle.flat_ends.proofs.laws.law_sites.Goals as goal

pub returns : goal.returns
returns c = law_of_sites
