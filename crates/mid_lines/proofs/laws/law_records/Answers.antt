use Rattle.mid_lines.proofs.TreeRecords.{law_of_records}
use Rattle.mid_lines.proofs.laws.law_records.Goals as goal

pub returns : goal.returns
returns c = law_of_records
