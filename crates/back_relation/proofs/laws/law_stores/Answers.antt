use Rattle.back_relation.proofs.Windows.{stored_elsewhere}
use Rattle.back_relation.proofs.laws.law_stores.Goals as goal

pub returns : goal.returns
returns c = stored_elsewhere
