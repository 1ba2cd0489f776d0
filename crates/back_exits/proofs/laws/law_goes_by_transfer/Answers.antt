use Rattle.back_exits.proofs.Returns.{goes_by_transfer_law}
use Rattle.back_exits.proofs.laws.law_goes_by_transfer.Goals as goal

pub returns : goal.returns
returns c = goes_by_transfer_law
