use Rattle.std.proofs.Common.{◌≡◌, map, take}
use Rattle.front_reader.specs.Characters.{folded}
use Rattle.front_reader.proofs.turn.folded_word.Given as goal

abbrev pub invariant-loop-byte : goal.invariant-loop-byte
invariant-loop-byte l = l.bytes ≡ map folded (take l.byte-index l.word)
