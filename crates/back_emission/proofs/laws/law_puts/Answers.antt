use Rattle.back_emission.proofs.KindLaws.{law_of_puts}
use Rattle.back_emission.proofs.laws.law_puts.Goals as goal

pub returns : goal.returns
returns c = law_of_puts
