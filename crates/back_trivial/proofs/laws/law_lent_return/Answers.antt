use Rattle.back_trivial.proofs.LentReturn.{lent_return_is_not_good}
use Rattle.back_trivial.proofs.laws.law_lent_return.Goals as goal

pub returns : goal.returns
returns c = lent_return_is_not_good
