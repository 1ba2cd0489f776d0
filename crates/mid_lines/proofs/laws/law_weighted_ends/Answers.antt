use Rattle.mid_lines.proofs.LineLaws.{law_of_weighted_ends}
use Rattle.mid_lines.proofs.laws.law_weighted_ends.Goals as goal

pub returns : goal.returns
returns c = law_of_weighted_ends
