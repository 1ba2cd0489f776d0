-- One number more.
use Rattle.std.proofs.Common.{take}
use Rattle.mid_start.specs.Settling.{precedence_words}
use Rattle.mid_start.proofs.Joins.{taken_more}
use Rattle.mid_start.proofs.Steps.{pushed_more, precedence_more}
use Rattle.mid_start.proofs.classes.push_precedence.Goals as goal

pub loop-at-preserved : goal.loop-at-preserved
loop-at-preserved c =
    rw (taken_more c.args.classes.now c.loop-at.at c.in-Some.class.now c.in-Some.ensures, precedence_more (take c.loop-at.at c.args.classes.now) c.in-Some.class.now)
    (pushed_more c.args.words.now c.loop-at.words (precedence_words (take c.loop-at.at c.args.classes.now)) _ _ c.loop-at.invariant c.in_ok-push.ensures.ok)
