use Rattle.back_emission.proofs.KindLaws.{law_of_choices}
use Rattle.back_emission.proofs.laws.law_choices.Goals as goal

pub returns : goal.returns
returns c = law_of_choices
