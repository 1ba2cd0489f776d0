use Rattle.back_generics.proofs.Generics.{generic_claims_law}
use Rattle.back_generics.proofs.laws.law_generic_claims.Goals as goal

pub returns : goal.returns
returns c = generic_claims_law
