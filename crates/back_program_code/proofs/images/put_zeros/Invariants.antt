-- As many zeros are appended as were counted.
use Rattle.std.proofs.Common.{◌≡◌, ◌++◌, replicate}
use Rattle.back_program_code.proofs.images.put_zeros.Given as goal

abbrev pub invariant-loop-zero : goal.invariant-loop-zero
invariant-loop-zero l = l.words ≡ l.fn.words ++ replicate l._zero 0
