use Rattle.mid_start.proofs.Law.{law_static_data}
use Rattle.mid_start.proofs.laws.law_static_data.Goals as goal

pub returns : goal.returns
returns c = law_static_data
