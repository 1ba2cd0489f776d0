use Rattle.back_build.proofs.WholeMeaning.{whole_meaning_law}
use Rattle.back_build.proofs.laws.law_whole_meaning.Goals as goal

pub returns : goal.returns
returns c = whole_meaning_law c.law_closures.ensures c.law_stores.ensures
