use Rattle.lang_alike.proofs.Shaped.{law_of_alike_data}
use Rattle.lang_alike.proofs.laws.law_alike_data.Goals as goal

pub returns : goal.returns
returns c = law_of_alike_data
