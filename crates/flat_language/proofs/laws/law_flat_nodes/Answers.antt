-- The law of flat nodes is a lemma.
use Rattle.flat_language.proofs.Nodes.{nodes_same}
use Rattle.flat_language.proofs.laws.law_flat_nodes.Goals as goal

pub returns : goal.returns
returns c = nodes_same
