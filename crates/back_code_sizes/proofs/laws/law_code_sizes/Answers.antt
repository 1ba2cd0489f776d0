use Rattle.back_code_sizes.proofs.Programs.{law_of_code_sizes}
use Rattle.back_code_sizes.proofs.laws.law_code_sizes.Goals as goal

pub returns : goal.returns
returns c = law_of_code_sizes
