-- The store answers the request, and all else is as it was.
use Rattle.std.proofs.Common.{refl}
use Rattle.eval_state.specs.declared.frame.Outcome.TheVariants.{Full}
use Rattle.eval_state.specs.Frames.{frame_slots}
use Rattle.eval_state.proofs.machine.Machine.ask.Goals as goal

pub returns-in-Ok : goal.returns-in-Ok
returns-in-Ok c = record {
  same = refl;
  state_is = λ names b. c.in-Ok.ensures.answer names (record b { frame = frame_slots names c.args.self.now.current c.args.self.now.slots.items });
}

pub returns-in-Err-Full : goal.returns-in-Err-Full
returns-in-Err-Full c = record {
  outcome = Full c.in-Err-Full.asked c.in-Err-Full.left;
  asked = c.in-Err-Full.asked;
  left = c.in-Err-Full.left;
  is_full = refl;
  same = refl;
  state_is = λ names b. rw c.in-Err-Full.field-0-is at (c.in-Err-Full.ensures.answer names (record b { frame = frame_slots names c.args.self.now.current c.args.self.now.slots.items }));
}
