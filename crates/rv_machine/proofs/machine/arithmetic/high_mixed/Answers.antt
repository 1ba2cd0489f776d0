use Rattle.rv_machine.specs.Arithmetic.{high_mixed}
use Rattle.rv_machine.proofs.Numbers.{bits_of_one}
use Rattle.rv_machine.proofs.machine.arithmetic.high_mixed.Goals as goal

pub returns : goal.returns
unfolding high_mixed
returns c =
    bits_of_one _ _ _ _ _ _ c.high.ensures c.from.ensures c.cast_signed.ensures c.cast_signed.type_inv c.from-2.ensures c.from-2.type_inv c.ranges.b.fits
