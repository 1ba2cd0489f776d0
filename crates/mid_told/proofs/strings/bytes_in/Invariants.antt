use Rattle.std.proofs.Common.{◌≡◌, ℕ, List, length, take}
use Rattle.mid_told.specs.Parts.{BytesIn}
use Rattle.mid_told.proofs.strings.bytes_in.Given as goal

abbrev pub invariant-loop-i : goal.invariant-loop-i
invariant-loop-i l = (bytes : List ℕ) → length bytes ≡ l.count → BytesIn l.words l.at bytes → l.read ≡ take l.i bytes
