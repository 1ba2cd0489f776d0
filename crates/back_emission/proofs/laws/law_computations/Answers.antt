use Rattle.back_emission.proofs.KindLaws.{law_of_computations}
use Rattle.back_emission.proofs.laws.law_computations.Goals as goal

pub returns : goal.returns
returns c = law_of_computations
