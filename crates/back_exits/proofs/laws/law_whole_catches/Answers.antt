use Rattle.back_exits.proofs.Catches.{whole_catches_law}
use Rattle.back_exits.proofs.laws.law_whole_catches.Goals as goal

pub returns : goal.returns
returns c = whole_catches_law
