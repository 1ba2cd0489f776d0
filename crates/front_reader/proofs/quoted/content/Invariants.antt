-- The bytes so far, and those of what is left.
use Rattle.std.proofs.Common.{◌≡◌, ◌++◌, false, drop}
use Rattle.front_reader.specs.bridge.Lexemes as bridge
use Rattle.front_reader.proofs.quoted.content.Given as goal

abbrev pub invariant-loop-byte : goal.invariant-loop-byte
invariant-loop-byte l = l.content ++ bridge.unescaped l.escaped (drop l.byte-index l.bytes) ≡ bridge.unescaped false l.bytes
