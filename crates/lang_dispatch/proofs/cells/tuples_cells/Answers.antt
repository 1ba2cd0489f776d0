-- Too many tuples have too many cells; else they are counted from the first argument on.
use Rattle.std.proofs.Common.{◌≤◌, List, ℕ, arith}
use Rattle.lang_meaning.specs.Cells.{tuple_cells, tuples}
use Rattle.lang_dispatch.specs.OfClasses.{with_classes}
use Rattle.lang_dispatch.proofs.TuplePlaces.{sum_above}
use Rattle.lang_dispatch.proofs.SuffixCells.{tuples_by_rest}
use Rattle.lang_dispatch.proofs.cells.tuples_cells.Goals as goal

pub returns-then-tuple_count-ge-CELLS_LIMIT : goal.returns-then-tuple_count-ge-CELLS_LIMIT
returns-then-tuple_count-ge-CELLS_LIMIT c =
    let f = tuple_cells (with_classes c.args.classes.now) c.args.generic.now in
    let many = sum_above f (λ (t : List ℕ). let one : 1 ≤ f t = omega arith in one) (tuples c.args.lists.now) in
    omega (arith, many, c.tuple_count.ensures)

pub returns : goal.returns
returns c =
    rw (tuples_by_rest (with_classes c.args.classes.now) c.args.generic.now (tuples c.args.lists.now))
    (rw c.as_slice.ensures at c.suffix_cells.ensures)
