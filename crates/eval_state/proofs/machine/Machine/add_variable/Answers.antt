-- A box is a new variable of the store.
use Rattle.eval_state.proofs.NewSlots.{box_made}
use Rattle.eval_state.proofs.machine.Machine.add_variable.Goals as goal

pub returns-in_ok-number-in-Boxed : goal.returns-in_ok-number-in-Boxed
returns-in_ok-number-in-Boxed c =
    box_made c.args.self.now c.add_slot-in-Boxed.new.self c.args.home c.in_ok-number-in-Boxed.number c.args.word c.add_variable.new.self
    c.add_slot-in-Boxed.result c.in-Boxed.is
    c.add_slot-in-Boxed.ensures.slots c.add_slot-in-Boxed.ensures.count c.add_slot-in-Boxed.ensures.same c.in_ok-number-in-Boxed.ensures.number
    c.in_ok-number-in-Boxed.ensures.ok
