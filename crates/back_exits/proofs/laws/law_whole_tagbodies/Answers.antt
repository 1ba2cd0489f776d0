use Rattle.back_exits.proofs.WholeTagbodies.{whole_tagbodies_law}
use Rattle.back_exits.proofs.laws.law_whole_tagbodies.Goals as goal

pub returns : goal.returns
returns c = whole_tagbodies_law
