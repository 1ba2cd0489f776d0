use Rattle.std.proofs.Common.{sym, inl, arith}
use Rattle.rv_machine.specs.Words.{number_at-byte, number_none}
use Rattle.rv_machine.proofs.machine.memory.byte_at.Goals as goal

pub returns-then-place-arena-clause-exact : goal.returns-then-place-arena-clause-exact
returns-then-place-arena-clause-exact c = sym (number_at-byte c.args.arena.now c.args.address c.if-place-arena.true)

pub returns-else-place-arena-clause-exact : goal.returns-else-place-arena-clause-exact
returns-else-place-arena-clause-exact c = sym (number_none 1 c.args.address c.args.arena.now (omega arith) (inl (omega arith, c.if-place-arena.false)))
