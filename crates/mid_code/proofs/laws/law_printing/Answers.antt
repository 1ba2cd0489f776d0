use Rattle.mid_code.proofs.Levels.{law_of_printing}
use Rattle.mid_code.proofs.laws.law_printing.Goals as goal

pub returns : goal.returns
returns c = law_of_printing
