-- What is passed is made.
use Rattle.std.proofs.Common.{◌≡◌, take}
use Rattle.lang_meaning.specs.Meaning.{bound_variables}
use Rattle.lang_meaning.specs.model.View.{bindings_of}
use Rattle.flat_conversion.proofs.variables.bound.Given as goal

abbrev pub invariant-loop-at : goal.invariant-loop-at
invariant-loop-at l = l.variables ≡ bound_variables (bindings_of (take l.at l.list))
