-- The rest is shorter.
use Rattle.std.proofs.Common.{length}
use Rattle.front_class_definitions.proofs.classes.+names_differ.Given as goal

abbrev pub decreases-names_differ : goal.decreases-names_differ
decreases-names_differ l = length l.uses.now
