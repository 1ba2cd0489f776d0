use Rattle.back_values.proofs.Wholes.{whole_globals}
use Rattle.back_values.proofs.laws.law_whole_globals.Goals as goal

pub returns : goal.returns
returns c = whole_globals
