-- A cons, or what is none.
use Rattle.eval_application.proofs.Spreads.{cons_on, no_cons_ends, nothing_ends}
use Rattle.eval_application.proofs.spreading.list_step.Goals as goal

pub returns-in-Cons : goal.returns-in-Cons
returns-in-Cons c = cons_on c.args.store.now c.args.word c.in-Some.object.now c.in-Object.number c.in-Cons.car c.in-Cons.cdr c.in-Object.is c.in-Some.ensures c.in-Cons.is

pub returns-in_default-object : goal.returns-in_default-object
returns-in_default-object c = no_cons_ends c.args.store.now c.args.word c.in-Some.object.now c.in-Object.number c.in-Object.is c.in-Some.ensures c.in_default-object.not-Cons

pub returns-in-None : goal.returns-in-None
returns-in-None c = nothing_ends c.args.store.now c.args.word c.in-Object.number c.in-Object.is c.in-None.ensures
