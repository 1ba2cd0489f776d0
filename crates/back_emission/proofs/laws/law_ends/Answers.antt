use Rattle.back_emission.proofs.KindLaws.{law_of_ends}
use Rattle.back_emission.proofs.laws.law_ends.Goals as goal

pub returns : goal.returns
returns c = law_of_ends
