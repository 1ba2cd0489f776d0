-- The law is the lemma, from the tables that the form begins with.
use Rattle.front_profile.specs.Nodes.{stands as comes_to}
use Rattle.front_profile.specs.Rows.{node}
use Rattle.front_profile.proofs.Growing.{begins_node}
use Rattle.front_profile.proofs.Grown.{node_grows}
use Rattle.front_profile.proofs.laws.law_growth.Goals as goal

pub returns : goal.returns
returns c = λ names a s d m h. node_grows names (node names a s d) (comes_to m) h s (begins_node names s a d)
