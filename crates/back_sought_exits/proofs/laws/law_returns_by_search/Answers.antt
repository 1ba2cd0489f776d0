use Rattle.back_sought_exits.proofs.Leaving.{returns_by_search_law}
use Rattle.back_sought_exits.proofs.laws.law_returns_by_search.Goals as goal

pub returns : goal.returns
returns c = returns_by_search_law
