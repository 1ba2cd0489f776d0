use Rattle.back_data.proofs.Starts.{law_of_beginnings_with_data}
use Rattle.back_data.proofs.laws.law_begins_with_data.Goals as goal

pub returns : goal.returns
returns c = law_of_beginnings_with_data
