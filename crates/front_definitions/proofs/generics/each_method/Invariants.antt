-- What was found stands in front of what the rest gives.
use Rattle.std.proofs.Common.{◌≡◌, ◌++◌, drop}
use Rattle.front_profile.specs.GenericRows.{each_method}
use Rattle.front_syntax.specs.Definitions.{view_methods}
use Rattle.front_drafts.specs.Views.{view_parts}
use Rattle.front_definitions.proofs.generics.each_method.Given as goal

abbrev pub invariant-loop-method : goal.invariant-loop-method
invariant-loop-method l = view_parts l.parts ++ each_method l.here.tables.now l.name (view_methods (drop l.method-index l.methods)) ≡ each_method l.here.tables.now l.name (view_methods l.methods)
