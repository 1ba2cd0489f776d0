use Rattle.lang_meaning.proofs.Levels.{law_of_transfers}
use Rattle.lang_meaning.proofs.laws.law_transfers.Goals as goal

pub returns : goal.returns
returns c = law_of_transfers
