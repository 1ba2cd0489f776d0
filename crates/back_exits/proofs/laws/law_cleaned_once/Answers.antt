use Rattle.back_exits.proofs.Once.{cleaned_once_law}
use Rattle.back_exits.proofs.laws.law_cleaned_once.Goals as goal

pub returns : goal.returns
returns c = cleaned_once_law
