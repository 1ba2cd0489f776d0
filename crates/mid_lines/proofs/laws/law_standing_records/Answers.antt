use Rattle.mid_lines.proofs.StandingRecords.{law_of_standing_records}
use Rattle.mid_lines.proofs.laws.law_standing_records.Goals as goal

pub returns : goal.returns
returns c = law_of_standing_records
