use Rattle.back_levels.proofs.Numbers.{main_numbers_law}
use Rattle.back_levels.proofs.laws.law_main_numbers.Goals as goal

pub returns : goal.returns
returns c = main_numbers_law
