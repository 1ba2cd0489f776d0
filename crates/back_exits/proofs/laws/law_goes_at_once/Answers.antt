use Rattle.back_exits.proofs.AtOnce.{goes_at_once_law}
use Rattle.back_exits.proofs.laws.law_goes_at_once.Goals as goal

pub returns : goal.returns
returns c = goes_at_once_law
