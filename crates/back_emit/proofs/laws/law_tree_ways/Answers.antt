use Rattle.back_emit.proofs.WaysOfTrees.{law_of_tree_ways}
use Rattle.back_emit.proofs.laws.law_tree_ways.Goals as goal

pub returns : goal.returns
returns c = law_of_tree_ways
