use Rattle.back_trivial.proofs.TrivialLines.{law_of_good_lines}
use Rattle.back_trivial.proofs.laws.law_good_lines.Goals as goal

pub returns : goal.returns
returns c = law_of_good_lines
