use Rattle.back_values.proofs.SetVariables.{setting_law}
use Rattle.back_values.proofs.laws.law_setting.Goals as goal

pub returns : goal.returns
returns c = setting_law
