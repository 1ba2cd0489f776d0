-- The innermost one is found.
use Rattle.std.proofs.Common.{ap, ◌∙◌}
use Rattle.front_profile.specs.Names.{tag_of}
use Rattle.front_context.specs.Spaces.{under}
use Rattle.front_context.proofs.Places.{tag_found}
use Rattle.front_context.proofs.bindings.Bindings.tag_of.Goals as goal

pub returns : goal.returns
returns c =
    c.tag.ensures ∙ ap (λ s. under c.args.symbol s.tags) c.self.invariant ∙ tag_found c.args.symbol c.self.inside.bound
    ∙ ap (λ bs. tag_of bs c.args.symbol) c.self.view_is
