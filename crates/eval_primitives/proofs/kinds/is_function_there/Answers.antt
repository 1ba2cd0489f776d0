-- Functions of procedures, functions that forms made and generic functions are functions.
use Rattle.eval_primitives.proofs.Seeing.{procedure_function, closure_function, generic_is_function}
use Rattle.eval_primitives.proofs.kinds.is_function_there.Goals as goal

pub returns-in-Function : goal.returns-in-Function
returns-in-Function c = procedure_function c.args.store.now c.args.word c.in-Some.object.now c.in-Function._procedure c.in-Some.ensures c.in-Function.is

pub returns-in-Closure : goal.returns-in-Closure
returns-in-Closure c = closure_function c.args.store.now c.args.word c.in-Some.object.now c.in-Closure._procedure c.in-Closure._captured c.in-Some.ensures c.in-Closure.is

pub returns-in-Generic : goal.returns-in-Generic
returns-in-Generic c = generic_is_function c.args.store.now c.args.word c.in-Some.object.now c.in-Generic._generic c.in-Some.ensures c.in-Generic.is
