-- The second part of the cons is another one.
use Rattle.std.proofs.Common.{arith, refl}
use Rattle.eval_store.proofs.Parts.{reads, cdr_set, no_cons, some_cons, unchanged}
use Rattle.eval_store.proofs.store.Store.set_cdr.Goals as goal

pub returns-in-Cons-clause-set : goal.returns-in-Cons-clause-set
returns-in-Cons-clause-set c = λ names b v h. cdr_set names b c.args.self.now c.args.word c.in-Object.number c.index_mut.result.now c.in-Cons.field-0 c.in-Cons.second c.args.cdr v (reads c.args.self.now c.args.word c.in-Object.number c.index_mut.result.now c.in-Object.is (omega arith) c.index_mut.ensures.value) c.in-Cons.is h

pub returns-in_default-index_mut-clause-set : goal.returns-in_default-index_mut-clause-set
returns-in_default-index_mut-clause-set c = λ names b v h. absurd (no_cons names b c.args.self.now c.args.word c.in-Object.number c.index_mut.result.now v (reads c.args.self.now c.args.word c.in-Object.number c.index_mut.result.now c.in-Object.is (omega arith) c.index_mut.ensures.value) c.in_default-index_mut.not-Cons h)

pub returns-in-Cons-clause-rest : goal.returns-in-Cons-clause-rest
returns-in-Cons-clause-rest c = λ names b h. absurd (some_cons names b c.args.self.now c.args.word c.in-Object.number c.index_mut.result.now c.in-Cons.field-0 c.in-Cons.second (reads c.args.self.now c.args.word c.in-Object.number c.index_mut.result.now c.in-Object.is (omega arith) c.index_mut.ensures.value) c.in-Cons.is h)

pub returns-in_default-index_mut-clause-rest : goal.returns-in_default-index_mut-clause-rest
returns-in_default-index_mut-clause-rest c = λ names b h. unchanged names b c.args.self.now c.args.word c.in-Object.number c.index_mut.result.now c.index_mut.result.now (reads c.args.self.now c.args.word c.in-Object.number c.index_mut.result.now c.in-Object.is (omega arith) c.index_mut.ensures.value) refl
