-- A form more.
use Rattle.front_elaboration.proofs.Keeping.{value_kept}
use Rattle.front_elaboration.proofs.kept.FoundParts.push_value.Goals as goal

pub invariant_of-self : goal.invariant_of-self
invariant_of-self c =
    value_kept c.self.inside.found c.push.new.found c.form.inside.core c.self.inside.values c.self.inside.bindings c.push.new.all c.form.inside.mentioned
    c.self.invariant c.in-Ok.ensures.found c.form.invariant c.in-Ok.ensures.all
