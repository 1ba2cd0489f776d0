use Rattle.back_scan.specs.Entries.{AreEntries}
use Rattle.back_scan.proofs.entries.entries_of.Given as goal

abbrev pub invariant-loop-register : goal.invariant-loop-register
invariant-loop-register l = AreEntries l.all l.register l.entries.items
