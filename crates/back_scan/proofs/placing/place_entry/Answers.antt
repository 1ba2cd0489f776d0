use Rattle.std.proofs.Common.{List, subst}
use Rattle.back_liveness.specs.declared.step.Interval.{Interval}
use Rattle.back_scan.specs.declared.windows.Window.{Window}
use Rattle.back_scan.specs.Chosen.{IsSpotFor}
use Rattle.back_scan.specs.Windows.{AreKept}
use Rattle.back_scan.proofs.Steps.{goes_on}
use Rattle.back_scan.proofs.placing.place_entry.Goals as goal

pub returns-in_ok-keep_windows-in-None : goal.returns-in_ok-keep_windows-in-None
returns-in_ok-keep_windows-in-None c =
    let a = c.args in
    let f = c.in_ok-found-in-None.found in
    let found = c.in_ok-found-in-None.ensures in
    let own = c.parts_at-own.ensures in
    let line = a.entry.interval.from in
    goes_on a.intervals.now a.parts.now a.wishes.now a.spots.now c.stand.new.spots a.taken.now.items c.spot_for.new.taken.items c.stand.new.taken.items
    a.windows.now.items c.keep_windows.new.windows.items a.entry.register a.entry.interval c.wish_of.result f.is_ended f.spot c.requires.scanned c.requires.inside
    c.requires.room c.requires.clear c.requires.entry c.requires.there c.in-None.is c.wish_of.ensures
    (subst (λ (ps : List Interval). IsSpotFor c.wish_of.result c.spot_for.new.taken.items a.windows.now.items ps line f.is_ended f.spot) own
    (subst (λ (ws : List Window). IsSpotFor c.wish_of.result c.spot_for.new.taken.items ws c.parts_at-own.result.now line f.is_ended f.spot) c.as_slice.ensures.value found.found))
    found.same c.stand.ensures.spots c.stand.ensures.taken
    (subst (λ (ps : List Interval). AreKept a.windows.now.items c.keep_windows.new.windows.items f.spot f.is_ended ps line) own c.in_ok-keep_windows-in-None.ensures)
