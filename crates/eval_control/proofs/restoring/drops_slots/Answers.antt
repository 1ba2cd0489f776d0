-- The first slots stay, and the outcome goes on.
use Rattle.std.proofs.Common.{take}
use Rattle.eval_machine.specs.Configuration.{configuration, come_to}
use Rattle.eval_state.specs.Frames.{outcome_of}
use Rattle.eval_state.proofs.Aside.{after_change}
use Rattle.eval_control.proofs.restoring.drops_slots.Goals as goal

pub returns : goal.returns
returns c =
    after_change c.args.machine.now c.keep_slots.new.machine c.come_to.new.self (record { level = 0; own = 0; around = record { exits = 0; handlers = 0; bindings = 0; site = record { line = 0; column = 0 } } }) 0
    (λ names t p fs z. configuration (come_to (outcome_of names c.args.outcome)) fs z) (λ names z. record z { frame = take c.args.count z.frame }) c.keep_slots.ensures c.come_to.ensures
