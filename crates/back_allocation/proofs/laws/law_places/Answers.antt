use Rattle.back_allocation.proofs.TreePlaces.{law_of_places}
use Rattle.back_allocation.proofs.laws.law_places.Goals as goal

pub returns : goal.returns
returns c = law_of_places
