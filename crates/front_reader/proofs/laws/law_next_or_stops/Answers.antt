use Rattle.front_reader.proofs.FirstStop.{next_or_stops}
use Rattle.front_reader.proofs.laws.law_next_or_stops.Goals as goal

pub returns : goal.returns
returns c = next_or_stops
