use Rattle.back_levels.proofs.Surroundings.{main_forms_law}
use Rattle.back_levels.proofs.laws.law_main_forms.Goals as goal

pub returns : goal.returns
returns c = main_forms_law
