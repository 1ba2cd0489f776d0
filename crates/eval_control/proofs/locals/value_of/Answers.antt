-- The value is in a slot, in a box, or was captured.
use Rattle.std.proofs.Common.{ap, sym, ◌∙◌, reverse}
use Rattle.std.specs.Prelude.{slice_get}
use Rattle.lang_meaning.specs.Lookup.{value_at}
use Rattle.flat_language.specs.FlatState.{value_of, value_in, box_in}
use Rattle.eval_state.specs.Frames.{frame_slots}
use Rattle.eval_state.specs.View.{at, state}
use Rattle.eval_state.proofs.Captures.{environment_captured}
use Rattle.eval_control.proofs.locals.value_of.Goals as goal

pub returns-in-Slot : goal.returns-in-Slot
returns-in-Slot c names b s =
    let m = c.args.machine.now in
    c.slot_value.ensures names ∙ ap (λ p. value_of p (at names m s).environment (state names m b)) (sym c.in-Slot.is)

pub returns-in-SlotBox : goal.returns-in-SlotBox
returns-in-SlotBox c names b s =
    let m = c.args.machine.now in
    c.variable.ensures names (record b { frame = frame_slots names m.current m.slots.items })
    ∙ ap (λ o. value_at o (state names m b).state) (c.slot_box.ensures names)
    ∙ ap (λ p. value_of p (at names m s).environment (state names m b)) (sym c.in-SlotBox.is)

pub returns-in-CapturedValue : goal.returns-in-CapturedValue
returns-in-CapturedValue c names b s =
    let m = c.args.machine.now in
    c.captured_value.ensures names
    ∙ ap (λ cs. value_in (slice_get cs c.in-CapturedValue.number)) (environment_captured names m.current (reverse m.frames.items) s)
    ∙ ap (λ p. value_of p (at names m s).environment (state names m b)) (sym c.in-CapturedValue.is)

pub returns-in-CapturedBox : goal.returns-in-CapturedBox
returns-in-CapturedBox c names b s =
    let m = c.args.machine.now in
    c.variable-in-CapturedBox.ensures names (record b { frame = frame_slots names m.current m.slots.items })
    ∙ ap (λ o. value_at o (state names m b).state) (c.captured_box.ensures names)
    ∙ ap (λ cs. value_at (box_in (slice_get cs c.in-CapturedBox.number)) (state names m b).state) (environment_captured names m.current (reverse m.frames.items) s)
    ∙ ap (λ p. value_of p (at names m s).environment (state names m b)) (sym c.in-CapturedBox.is)
