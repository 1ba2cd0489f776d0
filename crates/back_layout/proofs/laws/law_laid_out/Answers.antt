use Rattle.back_layout.proofs.LaidOut.{law_of_laid_out}
use Rattle.back_layout.proofs.laws.law_laid_out.Goals as goal

pub returns : goal.returns
returns c = law_of_laid_out
