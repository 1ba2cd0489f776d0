-- The variables so far, and those of the rest.
use Rattle.std.proofs.Common.{◌≡◌, ◌++◌, drop}
use Rattle.lang_meaning.specs.model.View.{bindings_of}
use Rattle.lang_meaning.specs.Mentions.{variables_bound}
use Rattle.test_checker.proofs.scope.variables_bound.Given as goal

abbrev pub invariant-loop-binding : goal.invariant-loop-binding
invariant-loop-binding l = l.list ++ variables_bound (bindings_of (drop l.binding-index l.bindings)) ≡ variables_bound (bindings_of l.bindings)
