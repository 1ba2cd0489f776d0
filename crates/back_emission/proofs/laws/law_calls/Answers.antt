use Rattle.back_emission.proofs.KindLaws.{law_of_calls}
use Rattle.back_emission.proofs.laws.law_calls.Goals as goal

pub returns : goal.returns
returns c = law_of_calls
