use Rattle.back_conditions.proofs.DynamicForms.{dynamic_lets_law}
use Rattle.back_conditions.proofs.laws.law_dynamic_lets.Goals as goal

pub returns : goal.returns
returns c = dynamic_lets_law
