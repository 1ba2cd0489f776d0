use Rattle.std.proofs.Common.{refl, arith}
use Rattle.rv_machine.specs.Words.{stored_at-half, stored_none}
use Rattle.rv_machine.proofs.machine.memory.store_half.Goals as goal

pub returns-then-place-arena-clause-stored : goal.returns-then-place-arena-clause-stored
returns-then-place-arena-clause-stored c = stored_at-half c.args.arena.now c.args.address c.args.value _ c.if-address-eq0.true c.if-place-arena.true c.with_half.ensures

pub returns-else-address-eq0-clause-stored : goal.returns-else-address-eq0-clause-stored
returns-else-address-eq0-clause-stored c = (stored_none 2 c.args.address c.args.value c.args.arena.now (omega arith) c.else-address-eq0.either, refl)
