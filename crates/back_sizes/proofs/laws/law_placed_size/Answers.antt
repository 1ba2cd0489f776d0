use Rattle.back_sizes.proofs.Sizes.{law_of_placed_size}
use Rattle.back_sizes.proofs.laws.law_placed_size.Goals as goal

pub returns : goal.returns
returns c = law_of_placed_size
