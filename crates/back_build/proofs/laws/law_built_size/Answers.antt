use Rattle.back_build.proofs.Sized.{law_of_built_size}
use Rattle.back_build.proofs.laws.law_built_size.Goals as goal

pub returns : goal.returns
returns c = law_of_built_size c.law_flat_programs.ensures
