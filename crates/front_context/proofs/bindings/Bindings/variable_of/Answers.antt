-- The innermost one is found.
use Rattle.std.proofs.Common.{ap, ◌∙◌}
use Rattle.front_profile.specs.Names.{variable_of}
use Rattle.front_context.specs.Spaces.{under}
use Rattle.front_context.proofs.Places.{variable_found}
use Rattle.front_context.proofs.bindings.Bindings.variable_of.Goals as goal

pub returns : goal.returns
returns c =
    c.variable.ensures ∙ ap (λ s. under c.args.symbol s.variables) c.self.invariant ∙ variable_found c.args.symbol c.self.inside.bound
    ∙ ap (λ bs. variable_of bs c.args.symbol) c.self.view_is
