-- What is left to escape is still to be appended.
use Rattle.std.proofs.Common.{◌≡◌, ◌++◌, drop}
use Rattle.lang_told.specs.Spelled.{escaped}
use Rattle.lang_told.proofs.spelling.append_between.Given as goal

abbrev pub invariant-loop-byte : goal.invariant-loop-byte
invariant-loop-byte l = l.out ++ escaped l.mark (drop l.byte-index l.bytes) ≡ l.initial.out ++ escaped l.mark l.bytes
