use Rattle.back_values.proofs.Globals.{globals_law}
use Rattle.back_values.proofs.laws.law_globals.Goals as goal

pub returns : goal.returns
returns c = globals_law
