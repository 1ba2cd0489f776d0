use Rattle.back_liveness.proofs.Around.{law_of_alive}
use Rattle.back_liveness.proofs.laws.law_alive.Goals as goal

pub returns : goal.returns
returns c = law_of_alive
