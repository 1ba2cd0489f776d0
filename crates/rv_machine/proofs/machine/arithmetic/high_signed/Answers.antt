use Rattle.base.specs.Arithmetic.{high_signed}
use Rattle.rv_machine.proofs.Numbers.{bits_of_both}
use Rattle.rv_machine.proofs.machine.arithmetic.high_signed.Goals as goal

pub returns : goal.returns
unfolding high_signed
returns c =
    bits_of_both _ _ _ _ _ _ _ c.high.ensures c.from.ensures c.cast_signed.ensures c.cast_signed.type_inv c.from-2.ensures c.cast_signed-2.ensures c.cast_signed-2.type_inv
