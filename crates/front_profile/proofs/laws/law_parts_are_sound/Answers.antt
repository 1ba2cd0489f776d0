-- The law is the lemma.
use Rattle.front_profile.specs.bridge.SoundRows.{sound_node}
use Rattle.front_profile.proofs.laws.law_parts_are_sound.Goals as goal

pub returns : goal.returns
returns c = sound_node
