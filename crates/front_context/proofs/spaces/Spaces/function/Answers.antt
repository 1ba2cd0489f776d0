-- The map finds what stands under the symbol.
use Rattle.std.proofs.Common.{ap, ◌∙◌}
use Rattle.front_context.specs.Spaces.{under}
use Rattle.front_context.proofs.Keys.{found_under}
use Rattle.front_context.proofs.spaces.Spaces.function.Goals as goal

pub returns : goal.returns
returns c = c.find.ensures ∙ found_under c.args.symbol c.self.inside.functions ∙ ap (λ s. under c.args.symbol s.functions) c.self.view_is
