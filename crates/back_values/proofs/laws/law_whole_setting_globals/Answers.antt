use Rattle.back_values.proofs.Wholes.{whole_setting_globals}
use Rattle.back_values.proofs.laws.law_whole_setting_globals.Goals as goal

pub returns : goal.returns
returns c = whole_setting_globals
