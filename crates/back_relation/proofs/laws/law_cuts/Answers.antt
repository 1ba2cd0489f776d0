use Rattle.back_relation.proofs.Cuts.{cuts_law}
use Rattle.back_relation.proofs.laws.law_cuts.Goals as goal

pub returns : goal.returns
returns c = cuts_law
