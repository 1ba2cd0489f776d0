-- The slot is behind those of other activations, which stay.
use Rattle.std.proofs.Common.{refl, ap, ◌∙◌, map}
use Rattle.std.proofs.lemmas.List.{map-set}
use Rattle.eval_state.specs.Frames.{slot_of, last_of}
use Rattle.eval_state.specs.View.{state}
use Rattle.eval_state.proofs.SlotLists.{set_others, set_last}
use Rattle.eval_state.proofs.machine.Machine.set_slot.Goals as goal

pub returns-then-number-count : goal.returns-then-number-count
returns-then-number-count c =
    let m = c.args.self.now in
    let xs = m.slots.items in
    record {
      in_place = record {
        given = refl;
        control = refl;
        frames = refl;
        operands = refl;
        activation = refl;
        others = set_others xs m.current.slots c.first_slot-first.result c.args.number c.args.slot c.first_slot-first.ensures;
      };
      state_is = λ names b.
          ap (λ f. record (state names m b) { frame = f })
          (ap (map (slot_of names)) (set_last xs m.current.slots c.first_slot-first.result c.args.number c.args.slot c.first_slot-first.ensures)
          ∙ map-set (slot_of names) (last_of m.current.slots xs) c.args.number c.args.slot);
    }
