use Rattle.mid_code.proofs.Examples.{switched, past_the_last}
use Rattle.mid_code.proofs.worked.worked_switches.Goals as goal

pub returns-clause-switched : goal.returns-clause-switched
returns-clause-switched c = switched

pub returns-clause-past_the_last : goal.returns-clause-past_the_last
returns-clause-past_the_last c = past_the_last
