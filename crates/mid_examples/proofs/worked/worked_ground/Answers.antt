use Rattle.mid_examples.proofs.GroundFacts.{ground_facts}
use Rattle.mid_examples.proofs.worked.worked_ground.Goals as goal

pub returns : goal.returns
returns c = record { ground_facts = ground_facts }
