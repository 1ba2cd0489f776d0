use Rattle.mid_lines.proofs.LineLaws.{law_of_weighted_printing}
use Rattle.mid_lines.proofs.laws.law_weighted_printing.Goals as goal

pub returns : goal.returns
returns c = law_of_weighted_printing
