use Rattle.mid_lines.proofs.Stacking.{law_of_stack}
use Rattle.mid_lines.proofs.laws.law_stack.Goals as goal

pub returns : goal.returns
returns c = law_of_stack
