use Rattle.front_reader.proofs.TextLaws.{one_stop}
use Rattle.front_reader.proofs.laws.law_one_stop.Goals as goal

pub returns : goal.returns
returns c = one_stop
