use Rattle.lang_taken.proofs.Laid.{law_of_laid}
use Rattle.lang_taken.proofs.laws.law_laid.Goals as goal

pub returns : goal.returns
returns c = law_of_laid
