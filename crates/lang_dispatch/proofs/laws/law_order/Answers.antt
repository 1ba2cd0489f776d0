-- The methods that apply, ordered.
use Rattle.lang_dispatch.proofs.Ordering.{one_way, in_order, same_methods}
use Rattle.lang_dispatch.proofs.laws.law_order.Goals as goal

pub returns-clause-same : goal.returns-clause-same
returns-clause-same c = same_methods

pub returns-clause-order : goal.returns-clause-order
returns-clause-order c = λ program g cs i j m n whole l h k q. in_order program cs g i j m n whole l h k q

pub returns-clause-one_way : goal.returns-clause-one_way
returns-clause-one_way c = one_way
