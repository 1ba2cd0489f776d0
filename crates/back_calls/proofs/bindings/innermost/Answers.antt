-- By whether there is one.
use Rattle.back_calls.proofs.Laying.{innermost_there, innermost_none}
use Rattle.back_calls.proofs.bindings.innermost.Goals as goal

pub returns-in-Some : goal.returns-in-Some
returns-in-Some c = innermost_there c.args.b c.args.old c.args.list.now _ c.in-Some.ensures

pub returns-in-None : goal.returns-in-None
returns-in-None c = innermost_none c.args.b c.args.old c.args.list.now c.in-None.ensures
