-- The operands are dropped first.
use Rattle.eval_machine.specs.Configuration.{configuration, come_to}
use Rattle.eval_state.specs.Frames.{outcome_of}
use Rattle.eval_state.proofs.Doing.{then_dropped}
use Rattle.eval_control.proofs.outcomes.pass.Goals as goal

pub returns : goal.returns
returns c =
    then_dropped c.args.machine.now c.drop_operands.new.self c.come_to.new.self c.args.operands (record { exits = 0; handlers = 0; bindings = 0; site = record { line = 0; column = 0 } })
    (λ names s around frames z. configuration (come_to (outcome_of names c.args.outcome)) frames z) c.drop_operands.ensures c.come_to.ensures
