use Rattle.lang_derived.proofs.Ranks.{rank_none, rank_falls, rank_stays}
use Rattle.lang_derived.proofs.laws.law_ranks.Goals as goal

pub returns-clause-none : goal.returns-clause-none
returns-clause-none c = rank_none

pub returns-clause-falls : goal.returns-clause-falls
returns-clause-falls c = rank_falls

pub returns-clause-stays : goal.returns-clause-stays
returns-clause-stays c = rank_stays
