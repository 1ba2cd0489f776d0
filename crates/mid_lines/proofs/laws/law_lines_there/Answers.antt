use Rattle.mid_lines.proofs.LineLaws.{law_of_lines_there}
use Rattle.mid_lines.proofs.laws.law_lines_there.Goals as goal

pub returns : goal.returns
returns c = law_of_lines_there
