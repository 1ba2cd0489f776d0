-- As many words are copied as were looked at.
use Rattle.std.proofs.Common.{◌≡◌, take}
use Rattle.mid_lines.proofs.flattening.copies.copy_of_words.Given as goal

abbrev pub invariant-loop-word : goal.invariant-loop-word
invariant-loop-word l = l.copied ≡ take l.word-index l.words
