-- The innermost one is found.
use Rattle.std.proofs.Common.{ap, ◌∙◌}
use Rattle.front_profile.specs.Names.{function_of}
use Rattle.front_context.specs.Spaces.{under}
use Rattle.front_context.proofs.Places.{function_found}
use Rattle.front_context.proofs.bindings.Bindings.function_of.Goals as goal

pub returns : goal.returns
returns c =
    c.function.ensures ∙ ap (λ s. under c.args.symbol s.functions) c.self.invariant ∙ function_found c.args.symbol c.self.inside.bound
    ∙ ap (λ bs. function_of bs c.args.symbol) c.self.view_is
