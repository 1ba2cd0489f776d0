use Rattle.back_generics.proofs.Chains.{chain_claims_law}
use Rattle.back_generics.proofs.laws.law_chain_claims.Goals as goal

pub returns : goal.returns
returns c = chain_claims_law
