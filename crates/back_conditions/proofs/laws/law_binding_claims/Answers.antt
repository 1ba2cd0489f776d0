use Rattle.back_conditions.proofs.BindingWalk.{binding_claims_law}
use Rattle.back_conditions.proofs.laws.law_binding_claims.Goals as goal

pub returns : goal.returns
returns c = binding_claims_law
