use Rattle.std.proofs.Common.{◌≡◌, length, arith, subst}
use Rattle.back_scan.specs.Run.{HasScanned}
use Rattle.back_scan.proofs.Beginning.{entry_later, entry_more, all_scanned}
use Rattle.back_scan.proofs.scan.place_all.Goals as goal

pub place_entry-requires-clause-scanned : goal.place_entry-requires-clause-scanned
place_entry-requires-clause-scanned c =
    entry_later c.args.intervals.now c.args.parts.now c.args.wishes.now c.args.entries.now c.loop-at.at c.loop-at.spots c.loop-at.taken.items c.loop-at.windows.items c.loop-at.line _ (omega arith)
    c.loop-at.invariant

pub loop-at-preserved : goal.loop-at-preserved
loop-at-preserved c =
    entry_more c.args.intervals.now c.args.parts.now c.args.wishes.now c.args.entries.now c.loop-at.at c.loop-at.spots c.place_entry.new.spots c.loop-at.taken.items
    c.place_entry.new.taken.items c.loop-at.windows.items c.place_entry.new.windows.items c.loop-at.line _ (omega arith) c.requires.sorted c.loop-at.invariant c.in_ok-place_entry.ensures

pub returns : goal.returns
returns c =
    let e : c.loop-at.at ≡ length c.args.entries.now = omega arith in (
      all_scanned c.args.intervals.now c.args.parts.now c.args.wishes.now c.args.entries.now c.loop-at.spots c.loop-at.taken.items c.loop-at.windows.items c.loop-at.line c.requires.entries
          (subst (λ n. HasScanned c.args.intervals.now c.args.parts.now c.args.wishes.now c.args.entries.now n c.loop-at.spots c.loop-at.taken.items c.loop-at.windows.items c.loop-at.line) e
          c.loop-at.invariant),
      c.loop-at.invariant.room,
    )
