-- A generic function more.
use Rattle.std.proofs.Common.{◌≡◌, ◌+◌, ◌≤◌, Some, slice_get, ap, sym, ◌∙◌, rules}
use Rattle.lang_meaning.specs.Cells.{generic_cells}
use Rattle.lang_dispatch.specs.OfClasses.{with_classes}
use Rattle.front_scope.proofs.CellBounds.{one_generic_more}
use Rattle.front_scope.proofs.quick.most_cells.Goals as goal

pub loop-at-preserved : goal.loop-at-preserved
loop-at-preserved c =
    let same : c.in_ok-most.most ≡ c.loop-at.most + c.in_ok-most_generic_cells.field-0 = search rules in
    let there : slice_get c.args.tables.now.generics c.loop-at.at ≡ Some c.in-Some.generic.now =
    ap (λ gs. slice_get gs c.loop-at.at) (sym c.rows-rows.ensures.rows) ∙ c.in-Some.ensures in
    let few : generic_cells (with_classes c.args.tables.now.classes.rows) c.in-Some.generic.now ≤ c.in_ok-most_generic_cells.field-0 = search rules in
    one_generic_more c.args.tables.now c.loop-at.at c.in-Some.generic.now c.loop-at.most c.in_ok-most_generic_cells.field-0 c.in_ok-most.most there few same c.loop-at.invariant
