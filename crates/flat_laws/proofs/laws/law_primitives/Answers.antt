use Rattle.flat_laws.proofs.Keeps.{law_of_primitives}
use Rattle.flat_laws.proofs.laws.law_primitives.Goals as goal

pub returns : goal.returns
returns c = law_of_primitives
