use Rattle.back_values.proofs.Globals.{setting_globals_law}
use Rattle.back_values.proofs.laws.law_setting_globals.Goals as goal

pub returns : goal.returns
returns c = setting_globals_law
