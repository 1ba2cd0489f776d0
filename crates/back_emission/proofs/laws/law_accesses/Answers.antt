use Rattle.back_emission.proofs.KindLaws.{law_of_accesses}
use Rattle.back_emission.proofs.laws.law_accesses.Goals as goal

pub returns : goal.returns
returns c = law_of_accesses
