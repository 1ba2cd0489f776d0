-- The rest is shorter.
use Rattle.std.proofs.Common.{length}
use Rattle.front_syntax.proofs.primitives.+first_named.Given as goal

abbrev pub decreases-first_named : goal.decreases-first_named
decreases-first_named l = length l.primitives.now
