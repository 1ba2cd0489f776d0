-- The function of an initform.
use Rattle.std.proofs.lemmas.Result.{IfOk-weaker}
use Rattle.eval_store.proofs.SlotParts.{initform_added}
use Rattle.eval_store.proofs.slots.lay_initform.Goals as goal

pub returns-in-Some : goal.returns-in-Some
returns-in-Some c = rw c.in-Some.is (IfOk-weaker c.add_object.result _ _ (λ w h. initform_added c.in-Some.procedure h) c.add_object.ensures)
