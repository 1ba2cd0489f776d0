use Rattle.rv_machine.proofs.Numbers.{shifted_low64}
use Rattle.rv_machine.proofs.machine.arithmetic.high.Goals as goal

pub returns : goal.returns
returns c = shifted_low64 c.args.product 4294967296 c.cast_unsigned.result c.ranges.product.sfits c.cast_unsigned.ensures
