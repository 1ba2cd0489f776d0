use Rattle.front_reader.proofs.FirstStop.{end_or_next, end_or_stops}
use Rattle.front_reader.proofs.laws.law_end.Goals as goal

pub returns-clause-datum : goal.returns-clause-datum
returns-clause-datum c = end_or_next

pub returns-clause-stop : goal.returns-clause-stop
returns-clause-stop c = end_or_stops
