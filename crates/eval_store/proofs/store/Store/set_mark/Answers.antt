-- The mark of an instance is another one; nothing else has a mark.
use Rattle.std.proofs.Common.{arith}
use Rattle.eval_store.proofs.Parts.{reads, mark_set, no_mark}
use Rattle.eval_store.proofs.store.Store.set_mark.Goals as goal

pub returns-in-Instance : goal.returns-in-Instance
returns-in-Instance c = λ names b. mark_set names b c.args.self.now c.args.word c.in-Object.number c.index_mut.result.now c.in-Instance.instance c.args.mark (reads c.args.self.now c.args.word c.in-Object.number c.index_mut.result.now c.in-Object.is (omega arith) c.index_mut.ensures.value) c.in-Instance.is

pub returns-in_default-index_mut : goal.returns-in_default-index_mut
returns-in_default-index_mut c = λ names b. no_mark names b c.args.self.now c.args.word c.in-Object.number c.index_mut.result.now c.args.mark (reads c.args.self.now c.args.word c.in-Object.number c.index_mut.result.now c.in-Object.is (omega arith) c.index_mut.ensures.value) c.in_default-index_mut.not-Instance
