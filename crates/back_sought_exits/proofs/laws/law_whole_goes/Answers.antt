use Rattle.back_sought_exits.proofs.Whole.{whole_goes_law}
use Rattle.back_sought_exits.proofs.laws.law_whole_goes.Goals as goal

pub returns : goal.returns
returns c = whole_goes_law
