-- So many words of the bytes stand behind the header and the number of bytes.
use Rattle.std.proofs.Common.{◌≡◌, ◌*◌, ◌∷◌, ◌++◌, length}
use Rattle.mid_start.specs.Contents.{packed_words}
use Rattle.mid_start.proofs.contents.push_text.Given as goal

abbrev pub invariant-loop-number : goal.invariant-loop-number
invariant-loop-number l = l.words ≡ l.fn.words ++ l.header ∷ 4 * length l.bytes ∷ packed_words l.bytes l.number
