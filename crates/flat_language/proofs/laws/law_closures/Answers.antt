-- The law of closures holds since names are bound.
use Rattle.flat_language.proofs.Law.{law_of_closures}
use Rattle.flat_language.proofs.laws.law_closures.Goals as goal

pub returns : goal.returns
returns c = law_of_closures c.law_names.ensures
