use Rattle.std.proofs.Common.{refl, arith}
use Rattle.back_program_code.proofs.Most.{most_of_next}
use Rattle.back_program_code.proofs.front.most_arguments.Goals as goal

pub loop-i-preserved : goal.loop-i-preserved
loop-i-preserved c =
    let next = most_of_next c.loop-i.i _ _ _ refl c.in-Some.ensures in
    omega (arith, next, c.larger-own.ensures, c.larger-most.ensures, c.loop-i.invariant, c.most_in_lines-passed.ensures)
