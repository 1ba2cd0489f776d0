-- The constant is the text of the definition.
use Rattle.top_made.specs.Text.{numbered_lines}
use Rattle.top_made.proofs.making.append_numbered.Goals as goal

pub returns : goal.returns
unfolding numbered_lines
returns c = c.append_filled.ensures
