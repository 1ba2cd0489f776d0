-- The value or the box, where the meaning finds it.
use Rattle.std.proofs.Common.{ap, sym, ◌∙◌, reverse}
use Rattle.std.specs.Prelude.{slice_get}
use Rattle.flat_language.specs.FlatState.{of_value, of_box, captured_variable, value_in, box_in}
use Rattle.eval_state.specs.View.{at, state}
use Rattle.eval_state.proofs.Captures.{environment_captured}
use Rattle.eval_control.proofs.functions.captured_variable.Goals as goal

pub returns-in-Slot : goal.returns-in-Slot
returns-in-Slot c names b s =
    let m = c.args.machine.now in
    ap of_value (c.slot_value.ensures names) ∙ ap (λ p. captured_variable p (at names m s).environment (state names m b)) (sym c.in-Slot.is)

pub returns-in-SlotBox : goal.returns-in-SlotBox
returns-in-SlotBox c names b s =
    let m = c.args.machine.now in
    ap of_box (c.slot_box.ensures names) ∙ ap (λ p. captured_variable p (at names m s).environment (state names m b)) (sym c.in-SlotBox.is)

pub returns-in-CapturedValue : goal.returns-in-CapturedValue
returns-in-CapturedValue c names b s =
    let m = c.args.machine.now in
    ap of_value (c.captured_value.ensures names
    ∙ ap (λ cs. value_in (slice_get cs c.in-CapturedValue.number)) (environment_captured names m.current (reverse m.frames.items) s))
    ∙ ap (λ p. captured_variable p (at names m s).environment (state names m b)) (sym c.in-CapturedValue.is)

pub returns-in-CapturedBox : goal.returns-in-CapturedBox
returns-in-CapturedBox c names b s =
    let m = c.args.machine.now in
    ap of_box (c.captured_box.ensures names
    ∙ ap (λ cs. box_in (slice_get cs c.in-CapturedBox.number)) (environment_captured names m.current (reverse m.frames.items) s))
    ∙ ap (λ p. captured_variable p (at names m s).environment (state names m b)) (sym c.in-CapturedBox.is)
