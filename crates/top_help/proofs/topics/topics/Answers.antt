-- The topics are written in the same order.
use Rattle.std.proofs.Common.{refl}
use Rattle.top_help.specs.Topics.{topics}
use Rattle.top_help.proofs.topics.topics.Goals as goal

pub returns : goal.returns
unfolding topics
returns c = refl
