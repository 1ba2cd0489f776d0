use Rattle.back_values.proofs.Sites.{sites_law}
use Rattle.back_values.proofs.laws.law_sites.Goals as goal

pub returns : goal.returns
returns c = sites_law
