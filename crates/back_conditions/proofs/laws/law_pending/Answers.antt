use Rattle.back_conditions.proofs.Combined.{pending_law}
use Rattle.back_conditions.proofs.laws.law_pending.Goals as goal

pub returns : goal.returns
returns c = pending_law
