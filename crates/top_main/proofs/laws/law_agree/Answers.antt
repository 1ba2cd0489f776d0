-- By the law of levels.
use Rattle.top_main.proofs.Agreement.{agrees}
use Rattle.top_main.proofs.laws.law_agree.Goals as goal

pub returns : goal.returns
returns c = agrees c.law_levels.ensures
