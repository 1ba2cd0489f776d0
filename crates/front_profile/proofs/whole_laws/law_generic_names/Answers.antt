-- The law is the lemma.
use Rattle.front_profile.proofs.Accessors.{no_generic_named}
use Rattle.front_profile.proofs.whole_laws.law_generic_names.Goals as goal

pub returns : goal.returns
returns c = no_generic_named
