use Rattle.back_values.proofs.MethodPlaces.{method_places_law}
use Rattle.back_values.proofs.laws.law_method_places.Goals as goal

pub returns : goal.returns
returns c = method_places_law
