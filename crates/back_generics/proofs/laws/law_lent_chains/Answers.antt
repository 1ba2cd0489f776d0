use Rattle.back_generics.proofs.Chains.{lent_chains_law}
use Rattle.back_generics.proofs.laws.law_lent_chains.Goals as goal

pub returns : goal.returns
returns c = lent_chains_law
