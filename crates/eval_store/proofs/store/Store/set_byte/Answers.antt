-- The byte is another one.
use Rattle.std.proofs.Common.{arith, refl}
use Rattle.eval_store.specs.declared.object.Object.TheVariants.{Text}
use Rattle.eval_store.proofs.Parts.{reads, some_byte, unchanged, byte_set, no_byte, no_string}
use Rattle.eval_store.proofs.store.Store.set_byte.Goals as goal

pub returns-then-at-len-clause-set : goal.returns-then-at-len-clause-set
returns-then-at-len-clause-set c = λ names b v h inside. byte_set names b c.args.self.now c.args.word c.in-Object.number c.index_mut.result.now c.in-Text.bytes c.replace.new.self c.args.at c.args.byte v (reads c.args.self.now c.args.word c.in-Object.number c.index_mut.result.now c.in-Object.is (omega arith) c.index_mut.ensures.value) c.in-Text.is c.replace.ensures.now h

pub returns-else-at-len-clause-set : goal.returns-else-at-len-clause-set
returns-else-at-len-clause-set c = λ names b v h inside. absurd (no_byte names b c.args.self.now c.args.word c.in-Object.number c.index_mut.result.now c.in-Text.bytes c.len-in-Text.result c.args.at v (reads c.args.self.now c.args.word c.in-Object.number c.index_mut.result.now c.in-Object.is (omega arith) c.index_mut.ensures.value) c.in-Text.is c.len-in-Text.ensures c.if-at-len.false h inside)

pub returns-in_default-index_mut-clause-set : goal.returns-in_default-index_mut-clause-set
returns-in_default-index_mut-clause-set c = λ names b v h inside. absurd (no_string names b c.args.self.now c.args.word c.in-Object.number c.index_mut.result.now v (reads c.args.self.now c.args.word c.in-Object.number c.index_mut.result.now c.in-Object.is (omega arith) c.index_mut.ensures.value) c.in_default-index_mut.not-Text h)

pub returns-then-at-len-clause-rest : goal.returns-then-at-len-clause-rest
returns-then-at-len-clause-rest c = λ names b h. absurd (some_byte names b c.args.self.now c.args.word c.in-Object.number c.index_mut.result.now c.in-Text.bytes c.len-in-Text.result c.args.at (reads c.args.self.now c.args.word c.in-Object.number c.index_mut.result.now c.in-Object.is (omega arith) c.index_mut.ensures.value) c.in-Text.is c.len-in-Text.ensures c.if-at-len.true h)

pub returns-else-at-len-clause-rest : goal.returns-else-at-len-clause-rest
returns-else-at-len-clause-rest c = λ names b h. unchanged names b c.args.self.now c.args.word c.in-Object.number c.index_mut.result.now (Text c.in-Text.bytes) (reads c.args.self.now c.args.word c.in-Object.number c.index_mut.result.now c.in-Object.is (omega arith) c.index_mut.ensures.value) c.in-Text.is

pub returns-in_default-index_mut-clause-rest : goal.returns-in_default-index_mut-clause-rest
returns-in_default-index_mut-clause-rest c = λ names b h. unchanged names b c.args.self.now c.args.word c.in-Object.number c.index_mut.result.now c.index_mut.result.now (reads c.args.self.now c.args.word c.in-Object.number c.index_mut.result.now c.in-Object.is (omega arith) c.index_mut.ensures.value) refl
