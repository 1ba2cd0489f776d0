-- A cons is made.
use Rattle.eval_primitives.proofs.Placing.{cons_made}
use Rattle.eval_primitives.proofs.making.cons.Goals as goal

pub returns : goal.returns
returns c = rw c.answered.ensures (cons_made c.args.limit c.args.car c.args.cdr c.args.store.now c.make.new.self c.make.result c.make.ensures.answer)
