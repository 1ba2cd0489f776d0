use Rattle.back_generics.proofs.Generics.{generics_law}
use Rattle.back_generics.proofs.laws.law_generics.Goals as goal

pub returns : goal.returns
returns c = generics_law
