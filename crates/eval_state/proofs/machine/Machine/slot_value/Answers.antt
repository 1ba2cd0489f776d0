-- The slot, as the frame of the meaning has it.
use Rattle.std.proofs.Common.{Some, ap, sym, ◌∙◌}
use Rattle.std.proofs.lemmas.Option.{slice_get-map}
use Rattle.std.specs.Prelude.{option_map}
use Rattle.flat_language.specs.FlatState.{value_held}
use Rattle.eval_state.specs.Frames.{slot_of, last_of}
use Rattle.eval_state.proofs.machine.Machine.slot_value.Goals as goal

pub returns-in-Some-Value : goal.returns-in-Some-Value
returns-in-Some-Value c names =
    sym (ap value_held (slice_get-map (slot_of names) (last_of c.args.self.now.current.slots c.args.self.now.slots.items) c.args.number ∙ ap (option_map (slot_of names)) (sym c.in-Some-Value.ensures ∙ ap Some c.in-Some-Value.field-0-is)))

pub returns-in-Some-Boxed : goal.returns-in-Some-Boxed
returns-in-Some-Boxed c names =
    sym (ap value_held (slice_get-map (slot_of names) (last_of c.args.self.now.current.slots c.args.self.now.slots.items) c.args.number ∙ ap (option_map (slot_of names)) (sym c.in-Some-Boxed.ensures ∙ ap Some c.in-Some-Boxed.field-0-is)))

pub returns-in-None : goal.returns-in-None
returns-in-None c names =
    sym (ap value_held (slice_get-map (slot_of names) (last_of c.args.self.now.current.slots c.args.self.now.slots.items) c.args.number ∙ ap (option_map (slot_of names)) (sym c.in-None.ensures)))
