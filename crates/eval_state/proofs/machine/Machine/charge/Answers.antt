-- The store has counted the units, and all else is as it was.
use Rattle.std.proofs.Common.{refl, sym, ap}
use Rattle.flat_language.specs.FlatState.{FlatEvaluated}
use Rattle.eval_state.specs.Frames.{frame_slots}
use Rattle.eval_state.proofs.machine.Machine.charge.Goals as goal

pub returns-in-Ok : goal.returns-in-Ok
returns-in-Ok c = record {
  same = refl;
  state_is = λ names b. sym (ap (λ (r : FlatEvaluated). r.state) (c.in-Ok.ensures.answer names (record b { frame = frame_slots names c.args.self.now.current c.args.self.now.slots.items })));
}
