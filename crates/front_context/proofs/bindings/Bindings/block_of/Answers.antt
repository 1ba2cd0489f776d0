-- The innermost one is found.
use Rattle.std.proofs.Common.{ap, ◌∙◌}
use Rattle.front_profile.specs.Names.{block_of}
use Rattle.front_context.specs.Spaces.{under}
use Rattle.front_context.proofs.Places.{block_found}
use Rattle.front_context.proofs.bindings.Bindings.block_of.Goals as goal

pub returns : goal.returns
returns c =
    c.block.ensures ∙ ap (λ s. under c.args.symbol s.blocks) c.self.invariant ∙ block_found c.args.symbol c.self.inside.bound
    ∙ ap (λ bs. block_of bs c.args.symbol) c.self.view_is
