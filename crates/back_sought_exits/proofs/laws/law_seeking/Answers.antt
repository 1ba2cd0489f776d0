use Rattle.back_sought_exits.proofs.Called.{seeking_law}
use Rattle.back_sought_exits.proofs.laws.law_seeking.Goals as goal

pub returns : goal.returns
returns c = seeking_law
