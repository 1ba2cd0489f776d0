use Rattle.back_values.proofs.Wholes.{whole_setting}
use Rattle.back_values.proofs.laws.law_whole_setting.Goals as goal

pub returns : goal.returns
returns c = whole_setting
