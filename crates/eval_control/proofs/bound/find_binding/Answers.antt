-- Those that were passed are counted.
use Rattle.eval_control.proofs.BindingsFound.{binding_counted}
use Rattle.eval_control.proofs.bound.find_binding.Goals as goal

pub returns : goal.returns
returns c = binding_counted c.args.machine.now c.charge.new.self c.args.name.0 c.args.link c.in_ok-bound.bound c.in_ok-bound.ensures c.in_ok-charge.ensures
