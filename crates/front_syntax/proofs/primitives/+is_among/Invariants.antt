-- The rest is shorter.
use Rattle.std.proofs.Common.{length}
use Rattle.front_syntax.proofs.primitives.+is_among.Given as goal

abbrev pub decreases-is_among : goal.decreases-is_among
decreases-is_among l = length l.others.now
