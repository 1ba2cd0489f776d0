use Rattle.back_exits.proofs.Combined.{transfers_law}
use Rattle.back_exits.proofs.laws.law_transfers.Goals as goal

pub returns : goal.returns
returns c = transfers_law
