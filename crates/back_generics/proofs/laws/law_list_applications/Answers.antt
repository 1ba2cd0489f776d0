use Rattle.back_generics.proofs.Whole.{applications_law}
use Rattle.back_generics.proofs.laws.law_list_applications.Goals as goal

pub returns : goal.returns
returns c = applications_law
