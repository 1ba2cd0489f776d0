use Rattle.back_scan.specs.Run.{HasScanned}
use Rattle.back_scan.proofs.scan.place_all.Given as goal

abbrev pub invariant-loop-at : goal.invariant-loop-at
invariant-loop-at l = HasScanned l.intervals l.parts l.wishes l.entries l.at l.spots l.taken.items l.windows.items l.line
