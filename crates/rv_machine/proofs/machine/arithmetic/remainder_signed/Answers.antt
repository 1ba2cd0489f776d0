use Rattle.rv_machine.proofs.Numbers.{remainder_by_zero, remainder_by_minus_one, remainder_else}
use Rattle.rv_machine.proofs.machine.arithmetic.remainder_signed.Goals as goal

pub returns-then-b-eq0 : goal.returns-then-b-eq0
returns-then-b-eq0 c = remainder_by_zero c.args.a c.args.b c.if-b-eq0.true

pub returns-then-b-eq4294967295 : goal.returns-then-b-eq4294967295
returns-then-b-eq4294967295 c = remainder_by_minus_one c.args.a c.args.b c.if-b-eq4294967295.true

pub returns-else-b-eq4294967295 : goal.returns-else-b-eq4294967295
returns-else-b-eq4294967295 c =
    remainder_else c.args.a c.args.b _ _ _ c.cast_signed.ensures c.cast_signed.type_inv c.cast_signed-else-b-eq4294967295.ensures c.cast_signed-else-b-eq4294967295.type_inv
    c.if-b-eq0.false c.cast_unsigned.ensures
