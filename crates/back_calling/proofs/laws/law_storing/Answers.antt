use Rattle.back_calling.proofs.Storing.{storing_law}
use Rattle.back_calling.proofs.laws.law_storing.Goals as goal

pub returns : goal.returns
returns c = storing_law
