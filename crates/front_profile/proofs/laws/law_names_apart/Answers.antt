-- The law is the lemma.
use Rattle.front_profile.specs.bridge.Later.{plain_later}
use Rattle.front_profile.proofs.laws.law_names_apart.Goals as goal

pub returns : goal.returns
returns c = plain_later
