-- The nearest frame that links handlers.
use Rattle.std.proofs.Common.{[]}
use Rattle.eval_application.proofs.Handlers.{makes_one, none_there, one_there}
use Rattle.eval_application.proofs.signalling.innermost_handler.Goals as goal

pub unreachable-requires : goal.unreachable-requires
unreachable-requires c = makes_one [] c.args.machine.now.frames.items c.args.link c.in-Some.outside c.in-Some.frame.now c.in-Some.ensures (c.in_default.ensures [])

pub returns-in-Some-handler_of : goal.returns-in-Some-handler_of
returns-in-Some-handler_of c = one_there c.args.machine.now c.args.link c.in-Some.frame.now (record { word = c.in-Some-handler_of.word; outside = c.in-Some.outside }) c.in-Some.ensures c.in-Some-handler_of.ensures

pub returns-in-None : goal.returns-in-None
returns-in-None c = none_there c.args.machine.now c.args.link c.in-None.ensures
