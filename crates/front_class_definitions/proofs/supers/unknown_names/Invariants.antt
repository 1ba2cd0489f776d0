-- What was found stands in front of what the rest gives.
use Rattle.std.proofs.Common.{◌≡◌, ◌++◌, drop}
use Rattle.front_profile.specs.ClassRows.{unknown_names}
use Rattle.front_syntax.specs.ClassDefinitions.{view_supers}
use Rattle.front_class_definitions.proofs.supers.unknown_names.Given as goal

abbrev pub invariant-loop-one : goal.invariant-loop-one
invariant-loop-one l = l.names ++ unknown_names l.here.tables.now.classes.rows (view_supers (drop l.one-index l.supers)) ≡ unknown_names l.here.tables.now.classes.rows (view_supers l.supers)
