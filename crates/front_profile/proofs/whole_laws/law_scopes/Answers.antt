-- The law is the lemma.
use Rattle.front_profile.proofs.Enough.{stands_within}
use Rattle.front_profile.proofs.whole_laws.law_scopes.Goals as goal

pub returns : goal.returns
returns c = stands_within
