use Rattle.std.proofs.Common.{◌≡◌, ◌≤◌, ◌+◌, drop}
use Rattle.front_reader.specs.Characters.{place_behind}
use Rattle.front_reader.proofs.cursor.place_behind.Given as goal

abbrev pub invariant-loop-byte : goal.invariant-loop-byte
invariant-loop-byte l = record {
  same : place_behind l.behind (drop l.byte-index l.bytes) ≡ place_behind l.fn.place l.bytes;
  line : l.behind.line ≤ l.fn.place.line + l.byte-index;
  column : l.behind.column ≤ l.fn.place.column + l.byte-index;
  none : l.fn.place.line ≡ 0 → l.behind.line ≡ 0;
}
