use Rattle.back_conditions.proofs.Settings.{settings_law}
use Rattle.back_conditions.proofs.laws.law_setting_dynamics.Goals as goal

pub returns : goal.returns
returns c = settings_law
