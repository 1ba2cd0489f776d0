use Rattle.back_exits.proofs.TransfersGoing.{transfer_goes}
use Rattle.back_exits.proofs.laws.law_transfer_goes.Goals as goal

pub returns : goal.returns
returns c = transfer_goes
