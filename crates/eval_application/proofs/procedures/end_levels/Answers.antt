-- The operands go, and the levels have come to an end.
use Rattle.lang_meaning.specs.State.{more}
use Rattle.eval_machine.specs.Configuration.{configuration, come_to}
use Rattle.eval_application.proofs.Above.{then_fewer}
use Rattle.eval_application.proofs.procedures.end_levels.Goals as goal

pub returns : goal.returns
returns c = then_fewer c.args.machine.now c.drop_operands.new.self c.come_to.new.self c.args.operands (λ names s frames z. configuration (come_to more) frames z) c.drop_operands.ensures c.come_to.ensures
