-- The law is the lemma.
use Rattle.front_profile.proofs.Expanders.{expanders_whole}
use Rattle.front_profile.proofs.whole_laws.law_expanders.Goals as goal

pub returns : goal.returns
returns c = expanders_whole
