use Rattle.std.proofs.Common.{length}
use Rattle.top_help.proofs.choosing.+explained.Given as goal

abbrev pub decreases-explained : goal.decreases-explained
decreases-explained l = length l.topics.now
