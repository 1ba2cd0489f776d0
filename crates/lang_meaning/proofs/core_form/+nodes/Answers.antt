-- The nodes of a form are its own and those of the forms right inside it.
use Rattle.std.proofs.Common.{arith}
use Rattle.lang_meaning.specs.Subforms.{outer}
use Rattle.lang_meaning.proofs.Counting.{nodes_folded, nodes_of}
use Rattle.lang_meaning.proofs.core_form.+nodes.Goals as goal

pub Core::nodes-returns : goal.Core::nodes-returns
Core::nodes-returns t c =
    omega (
      arith,
      nodes_folded c.args.bodies c.args.self.now,
      nodes_of c.args.bodies c.outer.result (outer c.args.self.now) c.all_nodes.result c.all_nodes.ensures c.outer.ensures,
    )
