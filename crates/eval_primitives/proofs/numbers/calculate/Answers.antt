-- Differences and remainders are in the meaning what they are in the code.
use Rattle.std.proofs.Common.{arith}
use Rattle.std.proofs.lemmas.Int.{to_z-of_z}
use Rattle.eval_primitives.proofs.numbers.calculate.Goals as goal

pub returns-in-Subtract : goal.returns-in-Subtract
returns-in-Subtract c = grind (arith, to_z-of_z)

pub returns-in-Modulo-2 : goal.returns-in-Modulo-2
returns-in-Modulo-2 c = grind (arith, to_z-of_z)
