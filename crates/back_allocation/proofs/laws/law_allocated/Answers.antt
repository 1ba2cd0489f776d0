use Rattle.back_allocation.proofs.Allocating.{law_of_allocated}
use Rattle.back_allocation.proofs.laws.law_allocated.Goals as goal

pub returns : goal.returns
returns c = law_of_allocated
