-- The symbol stands in the store, and its serial is counted.
use Rattle.std.proofs.Common.{arith}
use Rattle.eval_store.proofs.ObjectsMade.{symbol_seen, symbol_fails}
use Rattle.eval_store.proofs.store.Store.make_symbol.Goals as goal

pub returns-in-Ok-clause-answer : goal.returns-in-Ok-clause-answer
returns-in-Ok-clause-answer c = λ names b. symbol_seen names b c.args.limit c.args.self.now c.make.new.self c.in-Ok.word c.in-Some.next (c.in-Ok.ensures.answer names b) (omega arith)

pub returns-in-Err-clause-answer : goal.returns-in-Err-clause-answer
returns-in-Err-clause-answer c = λ names b. symbol_fails names b c.args.limit c.args.self.now c.make.new.self c.in-Err.halt (c.in-Err.ensures.answer names b)
