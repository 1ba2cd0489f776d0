-- The sizes of the forms fall; a loop has the nodes of what is passed.
use Rattle.lang_meaning.specs.bridge.Smaller.{form_measure, inner_measure, forms_measure}
use Rattle.lang_meaning.proofs.Counting.{NodesAreCounted}
use Rattle.lang_meaning.proofs.core_form.+nodes.Given as goal

abbrev pub decreases-Core::nodes : goal.decreases-Core::nodes
decreases-Core::nodes l = form_measure l.self.now

abbrev pub decreases-Core::inner_nodes : goal.decreases-Core::inner_nodes
decreases-Core::inner_nodes l = inner_measure l.self.now

abbrev pub decreases-counts::all_nodes : goal.decreases-counts::all_nodes
decreases-counts::all_nodes l = forms_measure l.forms

abbrev pub invariant-counts::all_nodes-loop-form : goal.invariant-counts::all_nodes-loop-form
invariant-counts::all_nodes-loop-form l = NodesAreCounted l.bodies l.fn.forms l.form-iterator l.total
