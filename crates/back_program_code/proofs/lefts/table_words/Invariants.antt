-- The words of the tables of the lines that were looked at.
use Rattle.std.proofs.Common.{◌≡◌, ◌<◌, ◌^◌, length, take}
use Rattle.back_layout.specs.Sizes.{all_targets}
use Rattle.back_program_code.proofs.lefts.table_words.Given as goal

abbrev pub invariant-loop-i : goal.invariant-loop-i
invariant-loop-i l = (l.words ≡ length (all_targets (take l.i l.lines))) × (l.words < 2 ^ 24)
