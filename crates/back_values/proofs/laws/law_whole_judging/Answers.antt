use Rattle.back_values.proofs.Wholes.{whole_judging}
use Rattle.back_values.proofs.laws.law_whole_judging.Goals as goal

pub returns : goal.returns
returns c = whole_judging
