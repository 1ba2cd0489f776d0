use Rattle.back_sought_exits.proofs.Leaving.{goes_by_search_law}
use Rattle.back_sought_exits.proofs.laws.law_goes_by_search.Goals as goal

pub returns : goal.returns
returns c = goes_by_search_law
