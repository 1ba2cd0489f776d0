use Rattle.front_reader.proofs.TextLaws.{one_reading}
use Rattle.front_reader.proofs.laws.law_one_reading.Goals as goal

pub returns : goal.returns
returns c = one_reading
