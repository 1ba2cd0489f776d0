use Rattle.lang_meaning.proofs.NamesBound.{law_of_names}
use Rattle.lang_meaning.proofs.laws.law_names.Goals as goal

pub returns : goal.returns
returns c = law_of_names
