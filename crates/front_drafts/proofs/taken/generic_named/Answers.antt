-- What is found by the name is the one of the name.
use Rattle.front_drafts.proofs.Generics.{found_by_name}
use Rattle.front_drafts.proofs.taken.generic_named.Goals as goal

pub returns : goal.returns
returns c = found_by_name _ _ _ c.find.ensures.named c.find.ensures.id
