-- The list stands in the initial heap.
use Rattle.eval_primitives.proofs.Dispatching.{initargs_told}
use Rattle.eval_primitives.proofs.primitives.Primitives.slot_initargs.Goals as goal

pub returns-in-Ok : goal.returns-in-Ok
returns-in-Ok c = initargs_told c.args.self.now c.args.store.now c.args.word c.args.place c.initargs_word.result c.in-Ok.instance.now c.in-Ok.at c.in-Ok.ensures c.initargs_word.ensures
