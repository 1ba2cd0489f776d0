use Rattle.back_relation.proofs.Combined.{choices_law}
use Rattle.back_relation.proofs.laws.law_choices.Goals as goal

pub returns : goal.returns
returns c = choices_law
