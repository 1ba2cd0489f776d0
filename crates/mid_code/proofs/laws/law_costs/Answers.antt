use Rattle.mid_code.proofs.Levels.{law_of_costs}
use Rattle.mid_code.proofs.laws.law_costs.Goals as goal

pub returns : goal.returns
returns c = law_of_costs
