use Rattle.back_conditions.proofs.Combined.{conditions_law}
use Rattle.back_conditions.proofs.laws.law_conditions.Goals as goal

pub returns : goal.returns
returns c = conditions_law
