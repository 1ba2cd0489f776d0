-- The map finds what stands under the symbol.
use Rattle.std.proofs.Common.{ap, ◌∙◌}
use Rattle.front_context.specs.Spaces.{under}
use Rattle.front_context.proofs.Keys.{found_under}
use Rattle.front_context.proofs.spaces.Spaces.tag.Goals as goal

pub returns : goal.returns
returns c = c.find.ensures ∙ found_under c.args.symbol c.self.inside.tags ∙ ap (λ s. under c.args.symbol s.tags) c.self.view_is
