use Rattle.back_conditions.proofs.ClassNumbers.{class_numbers_law}
use Rattle.back_conditions.proofs.laws.law_class_numbers.Goals as goal

pub returns : goal.returns
returns c = class_numbers_law
