-- The rest is shorter.
use Rattle.std.proofs.Common.{length}
use Rattle.front_syntax.proofs.primitives.+some_own_name.Given as goal

abbrev pub decreases-some_own_name : goal.decreases-some_own_name
decreases-some_own_name l = length l.primitives.now
