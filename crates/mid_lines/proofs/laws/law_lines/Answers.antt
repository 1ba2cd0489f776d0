use Rattle.mid_lines.proofs.LineLaws.{law_of_lines}
use Rattle.mid_lines.proofs.laws.law_lines.Goals as goal

pub returns : goal.returns
returns c = law_of_lines
