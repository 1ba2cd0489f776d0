use Rattle.std.proofs.Common.{arith}
use Rattle.std.proofs.lemmas.Int.{ints}
use Rattle.mid_taken.proofs.Found.{int_told}
use Rattle.mid_taken.proofs.parts.int_part.Goals as goal

pub returns : goal.returns
returns c = int_told c.args.word _ c.requires (omega (arith, ints, c.cast_signed.ensures, c.cast_signed.type_inv))
