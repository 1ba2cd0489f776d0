use Rattle.back_exits.proofs.Cleanups.{whole_unwinding_law}
use Rattle.back_exits.proofs.laws.law_whole_unwinding.Goals as goal

pub returns : goal.returns
returns c = whole_unwinding_law
