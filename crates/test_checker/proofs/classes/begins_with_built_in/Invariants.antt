-- It is left to see whether the rest begins with the others.
use Rattle.std.proofs.Common.{◌≡◌, drop}
use Rattle.lang_meaning.specs.BuiltIn.{built_in_precedence, built_in_slots}
use Rattle.lang_meaning.specs.Facts.{begins_with_built_in}
use Rattle.test_checker.proofs.classes.begins_with_built_in.Given as goal

abbrev pub invariant-loop-number : goal.invariant-loop-number
invariant-loop-number l = begins_with_built_in (drop l.number l.classes) (drop l.number built_in_precedence) (drop l.number built_in_slots) ≡ begins_with_built_in l.classes built_in_precedence built_in_slots
