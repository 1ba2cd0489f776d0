use Rattle.back_exits.proofs.Catches.{catches_law}
use Rattle.back_exits.proofs.laws.law_catches.Goals as goal

pub returns : goal.returns
returns c = catches_law
