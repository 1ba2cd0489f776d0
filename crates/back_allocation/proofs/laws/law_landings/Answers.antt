use Rattle.back_allocation.proofs.ToldLandings.{law_of_landings}
use Rattle.back_allocation.proofs.laws.law_landings.Goals as goal

pub returns : goal.returns
returns c = law_of_landings
