use Rattle.back_allocation.proofs.ProgramPlaces.{law_of_program_places}
use Rattle.back_allocation.proofs.laws.law_program_places.Goals as goal

pub returns : goal.returns
returns c = law_of_program_places
