-- A loop prints a datum at each turn, behind its gap.
use Rattle.std.proofs.Common.{◌≤◌, length, arith}
use Rattle.front_reader.proofs.PrintLoops.{items_spelling_at, items_spelling_end, turn, end}
use Rattle.front_reader.specs.Printing.{gap_before}
use Rattle.front_reader.proofs.print.+print.Goals as goal

pub append_items-loop-at-preserved : goal.append_items-loop-at-preserved
append_items-loop-at-preserved t c =
    turn c.loop-at.out c.append_gap.new.out c.append_datum.new.out _ _ _ _ _
    c.in_ok-append_gap.ensures c.in_ok-append_datum.ensures
    (items_spelling_at c.args.names.now c.args.items.now c.loop-at.at c.in-Some.item.now c.in-Some.ensures) c.loop-at.invariant

pub append_items-returns : goal.append_items-returns
append_items-returns t c =
    let past : length c.args.items.now ≤ c.loop-at.at = omega (arith, c.len-at-end.ensures) in
    end c.loop-at.out _ _ (items_spelling_end c.args.names.now (gap_before c.loop-at.at) c.args.items.now c.loop-at.at past) c.loop-at.invariant
