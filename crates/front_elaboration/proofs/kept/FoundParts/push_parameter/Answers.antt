-- A parameter more, or nothing.
use Rattle.front_elaboration.proofs.Keeping.{parameter_kept}
use Rattle.front_elaboration.proofs.kept.FoundParts.push_parameter.Goals as goal

pub invariant_of-self : goal.invariant_of-self
invariant_of-self c =
    parameter_kept c.push.result c.self.inside.found c.push.new.self c.args.var c.self.inside.values c.self.inside.bindings
    c.self.invariant c.push.ensures.ok c.push.ensures.err
