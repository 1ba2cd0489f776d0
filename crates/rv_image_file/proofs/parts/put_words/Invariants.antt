use Rattle.std.proofs.Common.{◌≡◌, ◌++◌, take}
use Rattle.rv_machine.specs.Memory.{bytes_of}
use Rattle.rv_image_file.proofs.parts.put_words.Given as goal

abbrev pub invariant-loop-word : goal.invariant-loop-word
invariant-loop-word l = l.out ≡ l.initial.out ++ bytes_of (take l.word-index l.words)
