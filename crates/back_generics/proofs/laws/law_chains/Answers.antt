use Rattle.back_generics.proofs.Chains.{chains_law}
use Rattle.back_generics.proofs.laws.law_chains.Goals as goal

pub returns : goal.returns
returns c = chains_law
