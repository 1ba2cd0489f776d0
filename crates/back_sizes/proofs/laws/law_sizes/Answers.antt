use Rattle.back_sizes.proofs.Sizes.{law_of_sizes}
use Rattle.back_sizes.proofs.laws.law_sizes.Goals as goal

pub returns : goal.returns
returns c = law_of_sizes
