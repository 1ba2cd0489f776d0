-- The store has made the exit, and all else is as it was.
use Rattle.std.proofs.Common.{refl}
use Rattle.eval_state.specs.Frames.{frame_slots}
use Rattle.eval_state.proofs.machine.Machine.new_exit.Goals as goal

pub returns-in-Ok : goal.returns-in-Ok
returns-in-Ok c = record {
  same = refl;
  number_is = λ names b. c.in-Ok.ensures.number;
  state_is = λ names b. c.in-Ok.ensures.ok names (record b { frame = frame_slots names c.args.self.now.current c.args.self.now.slots.items });
}
