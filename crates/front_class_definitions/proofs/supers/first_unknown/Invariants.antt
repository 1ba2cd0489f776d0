-- It is left to see what the rest says.
use Rattle.std.proofs.Common.{◌≡◌, drop}
use Rattle.front_profile.specs.ClassRows.{first_unknown_super}
use Rattle.front_syntax.specs.ClassDefinitions.{view_supers}
use Rattle.front_class_definitions.proofs.supers.first_unknown.Given as goal

abbrev pub invariant-loop-one : goal.invariant-loop-one
invariant-loop-one l = first_unknown_super l.classes.rows (view_supers (drop l.one-index l.supers)) ≡ first_unknown_super l.classes.rows (view_supers l.supers)
