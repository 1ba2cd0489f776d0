-- The constant is the text of the definition.
use Rattle.top_made.specs.Text.{last_line}
use Rattle.top_made.proofs.making.append_last.Goals as goal

pub returns : goal.returns
unfolding last_line
returns c = c.append.ensures.ok
