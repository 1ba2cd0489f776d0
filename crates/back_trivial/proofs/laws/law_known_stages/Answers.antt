use Rattle.back_trivial.proofs.KnownStages.{law_of_known_stages}
use Rattle.back_trivial.proofs.laws.law_known_stages.Goals as goal

pub returns : goal.returns
returns c = law_of_known_stages
