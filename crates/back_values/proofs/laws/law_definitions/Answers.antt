use Rattle.back_values.proofs.Globals.{definitions_law}
use Rattle.back_values.proofs.laws.law_definitions.Goals as goal

pub returns : goal.returns
returns c = definitions_law
