use Rattle.back_data.proofs.Starts.{law_of_starts_from_data}
use Rattle.back_data.proofs.laws.law_starts_from_data.Goals as goal

pub returns : goal.returns
returns c = law_of_starts_from_data
