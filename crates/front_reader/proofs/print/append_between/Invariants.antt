-- What is left to escape is still to be appended.
use Rattle.std.proofs.Common.{◌≡◌, ◌++◌, drop}
use Rattle.front_reader.specs.Printing.{escapes}
use Rattle.front_reader.proofs.print.append_between.Given as goal

abbrev pub invariant-loop-byte : goal.invariant-loop-byte
invariant-loop-byte l = l.out ++ escapes l.quote (drop l.byte-index l.bytes) ≡ l.initial.out ++ escapes l.quote l.bytes
