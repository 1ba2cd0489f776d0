-- Each clause is a lemma.
use Rattle.front_reader.specs.bridge.WellFormedReads.{next_good, next_shorter}
use Rattle.front_reader.proofs.laws.law_good_data.Goals as goal

pub returns-clause-good : goal.returns-clause-good
returns-clause-good c = next_good

pub returns-clause-shorter : goal.returns-clause-shorter
returns-clause-shorter c = next_shorter
