use Rattle.mid_start.proofs.WholeRows.{whole_rows}
use Rattle.mid_start.proofs.laws.law_whole_rows.Goals as goal

pub returns : goal.returns
returns c = whole_rows
