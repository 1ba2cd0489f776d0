-- The home of the binding, if there is one.
use Rattle.eval_state.proofs.BindingHomes.{home_at, home_past}
use Rattle.eval_state.proofs.variables.binding_home.Goals as goal

pub returns-in-Some : goal.returns-in-Some
returns-in-Some c = home_at c.args.list.now c.args.at c.in-Some.binding.now c.in-Some.ensures

pub returns-in-None : goal.returns-in-None
returns-in-None c = home_past c.args.list.now c.args.at c.in-None.ensures
