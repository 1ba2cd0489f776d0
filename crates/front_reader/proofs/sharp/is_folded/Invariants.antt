-- The bytes that are left are those of the name where all are.
use Rattle.std.proofs.Common.{◌≡◌, drop}
use Rattle.std.specs.Prelude.{map}
use Rattle.std.specs.Str.{bytes_eq}
use Rattle.front_reader.specs.Characters as characters
use Rattle.front_reader.proofs.sharp.is_folded.Given as goal

abbrev pub invariant-loop-i : goal.invariant-loop-i
invariant-loop-i l = bytes_eq (map characters.folded (drop l.i l.word)) (drop l.i l.name) ≡ bytes_eq (map characters.folded l.word) l.name
