use Rattle.back_conditions.proofs.ClassNumbers.{class_claims_law}
use Rattle.back_conditions.proofs.laws.law_class_claims.Goals as goal

pub returns : goal.returns
returns c = class_claims_law
