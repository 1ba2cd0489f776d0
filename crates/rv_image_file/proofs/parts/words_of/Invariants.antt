use Rattle.std.proofs.Common.{◌≡◌, ◌*◌, ◌++◌, drop}
use Rattle.std.specs.Prelude.{All}
use Rattle.rv_machine.specs.Memory.{bytes_of}
use Rattle.rv_image_file.specs.ImageText.{IsNumber}
use Rattle.rv_image_file.proofs.parts.words_of.Given as goal

abbrev pub invariant-loop-at : goal.invariant-loop-at
invariant-loop-at l = (l.bytes ≡ bytes_of l.words ++ drop (4 * l.at) l.bytes) × All IsNumber l.words
