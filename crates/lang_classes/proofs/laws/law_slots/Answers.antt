-- Slots are inherited.
use Rattle.lang_classes.proofs.Inheriting.{slots_once, inherits}
use Rattle.lang_classes.proofs.laws.law_slots.Goals as goal

pub returns-clause-once : goal.returns-clause-once
returns-clause-once c = λ h c x. slots_once h x c

pub returns-clause-inherited : goal.returns-clause-inherited
returns-clause-inherited c = λ h c d n x p q. inherits h x c d n p q
