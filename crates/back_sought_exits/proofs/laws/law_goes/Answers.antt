use Rattle.back_sought_exits.proofs.Called.{goes_law}
use Rattle.back_sought_exits.proofs.laws.law_goes.Goals as goal

pub returns : goal.returns
returns c = goes_law
