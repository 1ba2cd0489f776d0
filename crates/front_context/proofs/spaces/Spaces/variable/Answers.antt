-- The map finds what stands under the symbol.
use Rattle.std.proofs.Common.{ap, ◌∙◌}
use Rattle.front_context.specs.Spaces.{under}
use Rattle.front_context.proofs.Keys.{found_under}
use Rattle.front_context.proofs.spaces.Spaces.variable.Goals as goal

pub returns : goal.returns
returns c = c.find.ensures ∙ found_under c.args.symbol c.self.inside.variables ∙ ap (λ s. under c.args.symbol s.variables) c.self.view_is
