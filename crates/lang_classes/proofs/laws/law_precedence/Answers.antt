-- The order of the classes.
use Rattle.lang_classes.proofs.Ordering.{itself, once, through, one_way}
use Rattle.lang_classes.proofs.laws.law_precedence.Goals as goal

pub returns-clause-itself : goal.returns-clause-itself
returns-clause-itself c = λ h c x l. itself h x c l

pub returns-clause-once : goal.returns-clause-once
returns-clause-once c = λ h c x. once h x c

pub returns-clause-through : goal.returns-clause-through
returns-clause-through c = through

pub returns-clause-one_way : goal.returns-clause-one_way
returns-clause-one_way c = one_way
