-- The function stands in the initial heap.
use Rattle.eval_primitives.proofs.Dispatching.{initform_told}
use Rattle.eval_primitives.proofs.primitives.Primitives.slot_initform.Goals as goal

pub returns-in-Ok : goal.returns-in-Ok
returns-in-Ok c = initform_told c.args.self.now c.args.store.now c.args.word c.args.place c.initform_word.result c.in-Ok.instance.now c.in-Ok.at c.in-Ok.ensures c.initform_word.ensures
