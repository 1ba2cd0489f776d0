use Rattle.back_values.proofs.Literals.{whole_literals}
use Rattle.back_values.proofs.laws.law_whole_literals.Goals as goal

pub returns : goal.returns
returns c = whole_literals
