use Rattle.back_emission.proofs.KindLaws.{law_of_landings}
use Rattle.back_emission.proofs.laws.law_landings.Goals as goal

pub returns : goal.returns
returns c = law_of_landings
