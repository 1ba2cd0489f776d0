-- The first part of the cons is another one.
use Rattle.std.proofs.Common.{arith, refl}
use Rattle.eval_store.proofs.Parts.{reads, car_set, no_cons, some_cons, unchanged}
use Rattle.eval_store.proofs.store.Store.set_car.Goals as goal

pub returns-in-Cons-clause-set : goal.returns-in-Cons-clause-set
returns-in-Cons-clause-set c = λ names b v h. car_set names b c.args.self.now c.args.word c.in-Object.number c.index_mut.result.now c.in-Cons.first c.in-Cons.field-1 c.args.car v (reads c.args.self.now c.args.word c.in-Object.number c.index_mut.result.now c.in-Object.is (omega arith) c.index_mut.ensures.value) c.in-Cons.is h

pub returns-in_default-index_mut-clause-set : goal.returns-in_default-index_mut-clause-set
returns-in_default-index_mut-clause-set c = λ names b v h. absurd (no_cons names b c.args.self.now c.args.word c.in-Object.number c.index_mut.result.now v (reads c.args.self.now c.args.word c.in-Object.number c.index_mut.result.now c.in-Object.is (omega arith) c.index_mut.ensures.value) c.in_default-index_mut.not-Cons h)

pub returns-in-Cons-clause-rest : goal.returns-in-Cons-clause-rest
returns-in-Cons-clause-rest c = λ names b h. absurd (some_cons names b c.args.self.now c.args.word c.in-Object.number c.index_mut.result.now c.in-Cons.first c.in-Cons.field-1 (reads c.args.self.now c.args.word c.in-Object.number c.index_mut.result.now c.in-Object.is (omega arith) c.index_mut.ensures.value) c.in-Cons.is h)

pub returns-in_default-index_mut-clause-rest : goal.returns-in_default-index_mut-clause-rest
returns-in_default-index_mut-clause-rest c = λ names b h. unchanged names b c.args.self.now c.args.word c.in-Object.number c.index_mut.result.now c.index_mut.result.now (reads c.args.self.now c.args.word c.in-Object.number c.index_mut.result.now c.in-Object.is (omega arith) c.index_mut.ensures.value) refl
