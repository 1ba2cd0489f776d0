-- All bytes so far stay.
use Rattle.std.proofs.Common.{◌≡◌, drop}
use Rattle.std.specs.List.{list_all}
use Rattle.front_reader.specs.Printing.{stays}
use Rattle.front_reader.proofs.print.all_stay.Given as goal

abbrev pub invariant-loop-byte : goal.invariant-loop-byte
invariant-loop-byte l = list_all stays (drop l.byte-index l.name) ≡ list_all stays l.name
