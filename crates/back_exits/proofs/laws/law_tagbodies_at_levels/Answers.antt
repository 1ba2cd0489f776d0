use Rattle.back_exits.proofs.Down.{tagbodies_at_levels_law}
use Rattle.back_exits.proofs.laws.law_tagbodies_at_levels.Goals as goal

pub returns : goal.returns
returns c = tagbodies_at_levels_law
