-- As many words are appended as were looked at.
use Rattle.std.proofs.Common.{◌≡◌, ◌++◌, take}
use Rattle.back_program_code.proofs.images.put_copied.Given as goal

abbrev pub invariant-loop-word : goal.invariant-loop-word
invariant-loop-word l = l.words ≡ l.fn.words ++ take l.word-index l.more
