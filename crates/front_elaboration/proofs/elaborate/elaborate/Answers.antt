-- The form of each kind is made of what was found as the definition says.
use Rattle.front_elaboration.proofs.elaborate.elaborate.Goals as goal

pub returns-in-OfVariables : goal.returns-in-OfVariables
returns-in-OfVariables c = rw (c.in-OfVariables.is, ← c.in_ok-forms.ensures.bindings, ← c.in_ok-forms.ensures.forms) c.make_let.ensures
