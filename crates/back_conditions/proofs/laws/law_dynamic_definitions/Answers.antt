use Rattle.back_conditions.proofs.Definitions.{definitions_law}
use Rattle.back_conditions.proofs.laws.law_dynamic_definitions.Goals as goal

pub returns : goal.returns
returns c = definitions_law
