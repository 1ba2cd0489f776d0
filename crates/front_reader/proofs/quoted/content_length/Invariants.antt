-- The bytes so far, and those of what is left.
use Rattle.std.proofs.Common.{◌≡◌, ◌+◌, ◌≤◌, false, length, drop}
use Rattle.front_reader.specs.bridge.Lexemes as bridge
use Rattle.front_reader.proofs.quoted.content_length.Given as goal

abbrev pub invariant-loop-byte : goal.invariant-loop-byte
invariant-loop-byte l = record {
  counted : l.count + length (bridge.unescaped l.escaped (drop l.byte-index l.bytes)) ≡ length (bridge.unescaped false l.bytes);
  bound : l.count ≤ l.byte-index;
}
