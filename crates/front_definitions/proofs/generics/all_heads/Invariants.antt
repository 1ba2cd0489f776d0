-- What was found stands in front of what the rest gives.
use Rattle.std.proofs.Common.{◌≡◌, ◌++◌, drop}
use Rattle.front_profile.specs.GenericRows.{all_heads}
use Rattle.front_syntax.specs.Definitions.{view_methods}
use Rattle.front_definitions.proofs.generics.all_heads.Given as goal

abbrev pub invariant-loop-method : goal.invariant-loop-method
invariant-loop-method l = l.heads ++ all_heads l.here.tables.now (view_methods (drop l.method-index l.methods)) ≡ all_heads l.here.tables.now (view_methods l.methods)
