-- The exit is made, and then the condition has its mark.
use Rattle.std.proofs.Common.{refl}
use Rattle.eval_state.specs.Frames.{frame_slots}
use Rattle.eval_application.proofs.Handling.{signalled}
use Rattle.eval_application.proofs.signalling.begin_signal.Goals as goal

pub returns : goal.returns
returns c =
    signalled c.args.machine.now c.new_exit.new.self (record c.new_exit.new.self { store = c.set_mark.new.self }) c.args.condition c.args.mark c.in_ok-number.number
    c.in_ok-number.ensures.same c.in_ok-number.ensures.number_is c.in_ok-number.ensures.state_is refl
    (λ names b. c.set_mark.ensures names (record b { frame = frame_slots names c.new_exit.new.self.current c.new_exit.new.self.slots.items }))
