-- The slots behind those that stay are gone.
use Rattle.std.proofs.Common.{◌≡◌, ◌-◌, ◌<◌, length, map, refl, ap, sym, ◌∙◌, arith}
use Rattle.std.proofs.lemmas.List.{take-map}
use Rattle.eval_state.specs.Frames.{slot_of, last_of, others_of}
use Rattle.eval_state.specs.View.{state}
use Rattle.eval_control.proofs.Staying.{keep_last, keep_others}
use Rattle.eval_control.proofs.restoring.keep_slots.Goals as goal

pub returns : goal.returns
returns c =
    let m = c.args.machine.now in
    let xs = m.slots.items in
    let first : c.saturating_sub-first.result ≡ length xs - m.current.slots = omega arith in
    let fewer : c.args.count < length xs - c.saturating_sub-first.result = omega arith in
    record {
      in_place = record {
        given = refl;
        control = refl;
        frames = refl;
        operands = refl;
        activation = refl;
        others = ap (others_of c.args.count) c.truncate.ensures.items ∙ keep_others xs m.current.slots c.saturating_sub-first.result c.args.count first fewer;
      };
      state_is = λ names b.
          ap (λ f. record (state names m b) { frame = f })
          (ap (map (slot_of names)) (ap (last_of c.args.count) c.truncate.ensures.items ∙ keep_last xs m.current.slots c.saturating_sub-first.result c.args.count first fewer)
          ∙ sym (take-map (slot_of names) c.args.count (last_of m.current.slots xs)));
    }
