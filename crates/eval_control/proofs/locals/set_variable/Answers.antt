-- A slot is set, or a box of the store.
use Rattle.std.proofs.Common.{refl, ap, sym, ◌∙◌, reverse, subst}
use Rattle.std.specs.Prelude.{slice_get}
use Rattle.lang_meaning.specs.Lookup.{set_at}
use Rattle.flat_language.specs.FlatState.{on_state, set_to, box_in}
use Rattle.eval_store.specs.Words.{value_of_word}
use Rattle.eval_state.specs.Frames.{frame_slots}
use Rattle.eval_state.specs.Slots.{IsChanged}
use Rattle.eval_state.specs.View.{at, state}
use Rattle.eval_state.proofs.Captures.{environment_captured}
use Rattle.eval_state.proofs.Aside.{in_place_same}
use Rattle.eval_control.proofs.locals.set_variable.Goals as goal

pub returns-in-Slot : goal.returns-in-Slot
returns-in-Slot c s =
    let m = c.args.machine.now in
    subst (λ p. IsChanged m c.set_slot.new.self (λ names z. set_to p (value_of_word names c.args.word) (at names m s).environment z)) (sym c.in-Slot.is) c.set_slot.ensures

pub returns-in-SlotBox : goal.returns-in-SlotBox
returns-in-SlotBox c s =
    let m = c.args.machine.now in
    record {
      in_place = record { given = refl; control = refl; frames = refl; operands = refl; activation = refl; others = refl };
      state_is = λ names b.
          c.set_variable.ensures names (record b { frame = frame_slots names m.current m.slots.items })
          ∙ ap (λ o. on_state (λ y. set_at o (value_of_word names c.args.word) y) (state names m b)) (c.slot_box-boxed.ensures names)
          ∙ ap (λ p. set_to p (value_of_word names c.args.word) (at names m s).environment (state names m b)) (sym c.in-SlotBox.is);
    }

pub returns-in-CapturedValue : goal.returns-in-CapturedValue
returns-in-CapturedValue c s =
    let m = c.args.machine.now in
    record {
      in_place = in_place_same m;
      state_is = λ names b. ap (λ p. set_to p (value_of_word names c.args.word) (at names m s).environment (state names m b)) (sym c.in-CapturedValue.is);
    }

pub returns-in-CapturedBox : goal.returns-in-CapturedBox
returns-in-CapturedBox c s =
    let m = c.args.machine.now in
    record {
      in_place = record { given = refl; control = refl; frames = refl; operands = refl; activation = refl; others = refl };
      state_is = λ names b.
          c.set_variable-in-CapturedBox.ensures names (record b { frame = frame_slots names m.current m.slots.items })
          ∙ ap (λ o. on_state (λ y. set_at o (value_of_word names c.args.word) y) (state names m b)) (c.captured_box-boxed.ensures names)
          ∙ ap (λ cs. on_state (λ y. set_at (box_in (slice_get cs c.in-CapturedBox.number)) (value_of_word names c.args.word) y) (state names m b)) (environment_captured names m.current (reverse m.frames.items) s)
          ∙ ap (λ p. set_to p (value_of_word names c.args.word) (at names m s).environment (state names m b)) (sym c.in-CapturedBox.is);
    }
