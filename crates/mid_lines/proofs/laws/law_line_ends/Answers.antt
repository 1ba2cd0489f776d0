use Rattle.mid_lines.proofs.LineLaws.{law_of_line_ends}
use Rattle.mid_lines.proofs.laws.law_line_ends.Goals as goal

pub returns : goal.returns
returns c = law_of_line_ends
