use Rattle.front_reader.proofs.TextLaws.{reads_or_stops}
use Rattle.front_reader.proofs.laws.law_reads_or_stops.Goals as goal

pub returns : goal.returns
returns c = reads_or_stops
