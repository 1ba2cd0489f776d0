use Rattle.back_emission.proofs.Operands.{loaded}
use Rattle.back_emission.proofs.laws.law_loading.Goals as goal

pub returns : goal.returns
returns c = loaded
