-- The remainder that is not negative is the one that the lowest 32 bits are.
use Rattle.std.proofs.Common.{arith}
use Rattle.std.proofs.lemmas.Int.{ints, to_z-of_z}
use Rattle.base.specs.Arithmetic.{low_word}
use Rattle.mid_start.proofs.contents.word_of_integer.Goals as goal

pub returns : goal.returns
unfolding low_word
returns c = grind (arith, ints, to_z-of_z)
