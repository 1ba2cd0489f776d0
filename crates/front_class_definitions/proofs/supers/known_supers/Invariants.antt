-- What was found stands in front of what the rest gives.
use Rattle.std.proofs.Common.{◌≡◌, ◌++◌, drop}
use Rattle.front_profile.specs.ClassRows.{known_supers}
use Rattle.front_syntax.specs.ClassDefinitions.{view_supers}
use Rattle.front_class_definitions.proofs.supers.known_supers.Given as goal

abbrev pub invariant-loop-one : goal.invariant-loop-one
invariant-loop-one l = l.known ++ known_supers l.here.tables.now.classes.rows (view_supers (drop l.one-index l.supers)) ≡ known_supers l.here.tables.now.classes.rows (view_supers l.supers)
