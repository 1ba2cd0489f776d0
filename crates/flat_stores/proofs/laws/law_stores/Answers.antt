-- The law of stores holds since names are bound.
use Rattle.flat_stores.proofs.Stores.{law_of_stores}
use Rattle.flat_stores.proofs.laws.law_stores.Goals as goal

pub returns : goal.returns
returns c = law_of_stores c.law_names.ensures
