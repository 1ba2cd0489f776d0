use Rattle.back_calling.proofs.Numbers.{numbers_law}
use Rattle.back_calling.proofs.laws.law_numbers.Goals as goal

pub returns : goal.returns
returns c = numbers_law
