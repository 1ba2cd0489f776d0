use Rattle.back_calling.proofs.Entered.{entered_levels_law}
use Rattle.back_calling.proofs.laws.law_entered_levels.Goals as goal

pub returns : goal.returns
returns c = entered_levels_law
