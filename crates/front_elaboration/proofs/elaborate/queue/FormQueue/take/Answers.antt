-- What stands there is the first of what was left.
use Rattle.front_elaboration.proofs.MakingLists.{taken_out}
use Rattle.front_elaboration.proofs.elaborate.queue.FormQueue.take.Goals as goal

pub returns : goal.returns
returns c =
    cc (taken_out c.self.inside.forms c.replace-form.new.self c.self.inside.taken c.replace-form.result _ c.replace-form.ensures.was c.replace-form.ensures.now)
