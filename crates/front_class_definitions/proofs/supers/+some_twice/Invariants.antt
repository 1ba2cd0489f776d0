-- The rest is shorter.
use Rattle.std.proofs.Common.{length}
use Rattle.front_class_definitions.proofs.supers.+some_twice.Given as goal

abbrev pub decreases-some_twice : goal.decreases-some_twice
decreases-some_twice l = length l.names.now
