use Rattle.front_reader.proofs.FirstStop.{one_datum}
use Rattle.front_reader.proofs.laws.law_one_datum.Goals as goal

pub returns : goal.returns
returns c = one_datum
