use Rattle.std.proofs.Common.{subst, sym, ◌∙◌}
use Rattle.back_scan.specs.Run.{HasScanned}
use Rattle.back_scan.proofs.Beginning.{none_scanned}
use Rattle.back_scan.proofs.scan.linear_scan.Goals as goal

pub place_all-requires-clause-begun : goal.place_all-requires-clause-begun
place_all-requires-clause-begun c =
    subst (λ spots. HasScanned c.args.intervals.now c.args.parts.now c.args.wishes.now c.as_slice.result.now 0 spots c.in_ok-taken.taken.items c.new-windows.result.items 0)
    (sym c.as_mut_slice.ensures.value)
    (none_scanned c.args.intervals.now c.args.parts.now c.args.wishes.now c.as_slice.result.now c.in_ok-spots.spots.items c.in_ok-taken.taken.items c.new-windows.result.items
    (c.in_ok-spots.ensures.count ∙ c.len.ensures) c.in_ok-taken.ensures.count c.in_ok-spots.ensures.none c.in_ok-taken.ensures.none c.new-windows.ensures.items)
