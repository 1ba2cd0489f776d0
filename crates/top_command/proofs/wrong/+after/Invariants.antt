-- The prefix gets shorter.
use Rattle.std.proofs.Common.{length}
use Rattle.top_command.proofs.wrong.+after.Given as goal

abbrev pub decreases-after : goal.decreases-after
decreases-after l = length l.prefix.now
