-- A symbol is made.
use Rattle.eval_primitives.proofs.Placing.{symbol_made}
use Rattle.eval_primitives.proofs.making.gensym.Goals as goal

pub returns : goal.returns
returns c = rw c.answered.ensures (symbol_made c.args.limit c.args.store.now c.make_symbol.new.self c.make_symbol.result c.make_symbol.ensures.answer)
