use Rattle.back_exits.proofs.Tagbodies.{tagbodies_law}
use Rattle.back_exits.proofs.laws.law_tagbodies.Goals as goal

pub returns : goal.returns
returns c = tagbodies_law
