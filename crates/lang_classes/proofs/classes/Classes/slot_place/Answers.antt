-- A class has at most 64 slots.
use Rattle.std.proofs.Common.{◌≡◌, Some, slice_get, length, ap, sym, ◌∙◌, arith}
use Rattle.lang_classes.proofs.classes.Classes.slot_place.Goals as goal

pub overflow_cast-result : goal.overflow_cast-result
overflow_cast-result c =
    let there : slice_get c.self.inside.table.rows c.args.class ≡ Some c.in-Some.row.now =
    ap (λ rows. slice_get rows c.args.class) (sym c.rows.ensures.rows) ∙ c.in-Some.ensures in
    let few = (c.self.invariant.classes.right c.args.class c.in-Some.row.now there).few in
    omega (arith, few, c.in-Some-place_of_slot.ensures.below, ap length c.as_slice.ensures)
