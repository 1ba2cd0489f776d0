use Rattle.std.proofs.Common.{refl, inl, arith}
use Rattle.rv_machine.specs.Words.{stored_at-byte, stored_none}
use Rattle.rv_machine.proofs.machine.memory.store_byte.Goals as goal

pub returns-then-place-arena-clause-stored : goal.returns-then-place-arena-clause-stored
returns-then-place-arena-clause-stored c = stored_at-byte c.args.arena.now c.args.address c.args.value _ c.if-place-arena.true c.with_byte.ensures

pub returns-else-place-arena-clause-stored : goal.returns-else-place-arena-clause-stored
returns-else-place-arena-clause-stored c = (stored_none 1 c.args.address c.args.value c.args.arena.now (omega arith) (inl (omega arith, c.if-place-arena.false)), refl)
