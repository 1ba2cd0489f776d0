use Rattle.back_calling.proofs.Applied.{applying_bodies_law}
use Rattle.back_calling.proofs.laws.law_applying_bodies.Goals as goal

pub returns : goal.returns
returns c = applying_bodies_law
