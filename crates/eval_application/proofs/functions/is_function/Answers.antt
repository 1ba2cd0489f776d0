-- Procedures, functions that forms made, and generic functions.
use Rattle.eval_application.proofs.Finding.{is_procedure, is_closure, is_generic}
use Rattle.eval_application.proofs.functions.is_function.Goals as goal

pub returns-in-Function : goal.returns-in-Function
returns-in-Function c = is_procedure c.args.store.now c.args.word c.in-Some.object.now c.in-Function._procedure c.in-Some.ensures c.in-Function.is

pub returns-in-Closure : goal.returns-in-Closure
returns-in-Closure c = is_closure c.args.store.now c.args.word c.in-Some.object.now c.in-Closure._procedure c.in-Closure._captured c.in-Some.ensures c.in-Closure.is

pub returns-in-Generic : goal.returns-in-Generic
returns-in-Generic c = is_generic c.args.store.now c.args.word c.in-Some.object.now c.in-Generic._generic c.in-Some.ensures c.in-Generic.is
