use Rattle.back_emission.proofs.Operands.{read}
use Rattle.back_emission.proofs.laws.law_reading.Goals as goal

pub returns : goal.returns
returns c = read
