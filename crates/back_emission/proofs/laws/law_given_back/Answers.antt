use Rattle.back_emission.proofs.KindLaws.{law_of_given_back}
use Rattle.back_emission.proofs.laws.law_given_back.Goals as goal

pub returns : goal.returns
returns c = law_of_given_back
