-- The operands go, and nil comes.
use Rattle.lang_meaning.specs.Values.{nil}
use Rattle.lang_meaning.specs.State.{value}
use Rattle.eval_machine.specs.Configuration.{configuration, come_to}
use Rattle.eval_application.proofs.Above.{then_fewer}
use Rattle.eval_application.proofs.procedures.give_nil.Goals as goal

pub returns : goal.returns
returns c = then_fewer c.args.machine.now c.drop_operands.new.self c.gives.new.self c.args.operands (λ names s frames z. configuration (come_to (value nil)) frames z) c.drop_operands.ensures c.gives.ensures
