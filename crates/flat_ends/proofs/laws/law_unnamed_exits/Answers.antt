use Rattle.flat_ends.proofs.Leaving.{law_of_unnamed_exits}
use Rattle.flat_ends.proofs.laws.law_unnamed_exits.Goals as goal

pub returns : goal.returns
returns c = law_of_unnamed_exits
