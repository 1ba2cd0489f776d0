-- The rest is shorter.
use Rattle.std.proofs.Common.{length}
use Rattle.front_syntax.proofs.primitives.+some_direct_name.Given as goal

abbrev pub decreases-some_direct_name : goal.decreases-some_direct_name
decreases-some_direct_name l = length l.primitives.now
