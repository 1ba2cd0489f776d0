use Rattle.back_calling.proofs.Inner.{looking_law}
use Rattle.back_calling.proofs.laws.law_looking.Goals as goal

pub returns : goal.returns
returns c = looking_law
