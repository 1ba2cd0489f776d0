-- Each has a name of its own.
use Rattle.front_elaboration.proofs.MakingNames.{found_number}
use Rattle.front_elaboration.proofs.elaborate.methods.generic_named.Goals as goal

pub returns : goal.returns
returns c = found_number _ _ _ c.rows.ensures.named c.find.ensures.id
