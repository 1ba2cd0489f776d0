use Rattle.back_emission.proofs.Room.{room_there}
use Rattle.back_emission.proofs.laws.law_room.Goals as goal

pub returns : goal.returns
returns c = room_there
