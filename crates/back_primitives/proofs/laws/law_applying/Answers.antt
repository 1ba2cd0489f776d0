use Rattle.back_primitives.proofs.Applying.{applying_law}
use Rattle.back_primitives.proofs.laws.law_applying.Goals as goal

pub returns : goal.returns
returns c = applying_law
