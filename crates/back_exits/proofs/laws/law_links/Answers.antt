use Rattle.back_exits.proofs.Links.{links_law}
use Rattle.back_exits.proofs.laws.law_links.Goals as goal

pub returns : goal.returns
returns c = links_law
