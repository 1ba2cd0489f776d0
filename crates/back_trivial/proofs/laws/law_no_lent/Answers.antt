use Rattle.back_trivial.proofs.NoLent.{law_of_no_lent}
use Rattle.back_trivial.proofs.laws.law_no_lent.Goals as goal

pub returns : goal.returns
returns c = law_of_no_lent
