-- The constant is the text of the definition.
use Rattle.top_made.specs.Text.{first_lines}
use Rattle.top_made.proofs.making.first_lines.Goals as goal

pub returns : goal.returns
unfolding first_lines
returns c = c.from_slice.ensures
