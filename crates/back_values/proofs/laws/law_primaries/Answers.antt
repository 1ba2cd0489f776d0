use Rattle.back_values.proofs.Primaries.{primaries_law}
use Rattle.back_values.proofs.laws.law_primaries.Goals as goal

pub returns : goal.returns
returns c = primaries_law
