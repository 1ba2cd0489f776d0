-- How the bytes that are left go on.
use Rattle.std.proofs.Common.{◌≡◌, false, drop}
use Rattle.front_reader.specs.bridge.Lexemes as bridge
use Rattle.front_reader.proofs.quoted.scan.Given as goal

abbrev pub invariant-loop-i : goal.invariant-loop-i
invariant-loop-i l = bridge.quoted_from l.quote l.escaped l.i (drop l.i l.rest) ≡ bridge.quoted_from l.quote false 0 l.rest
