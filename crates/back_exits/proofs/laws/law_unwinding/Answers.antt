use Rattle.back_exits.proofs.Cleanups.{unwinding_law}
use Rattle.back_exits.proofs.laws.law_unwinding.Goals as goal

pub returns : goal.returns
returns c = unwinding_law
