-- The method at that place, or none is left.
use Rattle.std.proofs.Common.{arith}
use Rattle.eval_application.proofs.Running.{none_goes}
use Rattle.eval_application.proofs.methods.apply_each.Goals as goal

pub returns-else-at-len : goal.returns-else-at-len
returns-else-at-len c = none_goes c.args.machine.now c.gives.new.self c.args.list c.args.at c.args.level c.args.arguments.value c.args.around (omega (arith, c.len.ensures, c.if-at-len.false)) c.gives.ensures
