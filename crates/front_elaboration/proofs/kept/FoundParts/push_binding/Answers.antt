-- A variable with its value more.
use Rattle.front_elaboration.proofs.Keeping.{binding_kept}
use Rattle.front_elaboration.proofs.kept.FoundParts.push_binding.Goals as goal

pub invariant_of-self : goal.invariant_of-self
invariant_of-self c =
    binding_kept c.self.inside.found c.push.new.found c.args.var c.form.inside.core c.self.inside.values c.self.inside.bindings c.push.new.all c.form.inside.mentioned
    c.self.invariant c.in-Ok.ensures.found c.form.invariant c.in-Ok.ensures.all
