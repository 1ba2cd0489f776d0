use Rattle.back_calling.proofs.Levels.{form_levels_law}
use Rattle.back_calling.proofs.laws.law_form_levels.Goals as goal

pub returns : goal.returns
returns c = form_levels_law
