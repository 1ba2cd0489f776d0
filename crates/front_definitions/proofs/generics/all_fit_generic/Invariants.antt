-- It is left to see what the rest says.
use Rattle.std.proofs.Common.{◌≡◌, Some, drop}
use Rattle.front_profile.specs.GenericRows.{all_fit}
use Rattle.front_syntax.specs.Definitions.{view_methods}
use Rattle.front_definitions.proofs.generics.all_fit_generic.Given as goal

abbrev pub invariant-loop-method : goal.invariant-loop-method
invariant-loop-method l = all_fit l.here.tables.now (Some l.generic) (view_methods (drop l.method-index l.methods)) ≡ all_fit l.here.tables.now (Some l.fn.generic) (view_methods l.methods)
