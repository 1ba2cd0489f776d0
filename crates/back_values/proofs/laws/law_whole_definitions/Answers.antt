use Rattle.back_values.proofs.Wholes.{whole_definitions}
use Rattle.back_values.proofs.laws.law_whole_definitions.Goals as goal

pub returns : goal.returns
returns c = whole_definitions
