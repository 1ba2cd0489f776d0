use Rattle.flat_laws.proofs.Runs.{law_of_flat_transfers}
use Rattle.flat_laws.proofs.laws.law_flat_transfers.Goals as goal

pub returns : goal.returns
returns c = law_of_flat_transfers
