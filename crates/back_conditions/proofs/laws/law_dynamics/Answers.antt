use Rattle.back_conditions.proofs.Dynamics.{dynamics_law}
use Rattle.back_conditions.proofs.laws.law_dynamics.Goals as goal

pub returns : goal.returns
returns c = dynamics_law
