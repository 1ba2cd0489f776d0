use Rattle.std.proofs.Common.{sym, arith}
use Rattle.rv_machine.specs.Words.{number_at-half, number_none}
use Rattle.rv_machine.proofs.machine.memory.half_at.Goals as goal

pub returns-then-place-arena-clause-exact : goal.returns-then-place-arena-clause-exact
returns-then-place-arena-clause-exact c = sym (number_at-half c.args.arena.now c.args.address c.if-address-eq0.true c.if-place-arena.true)

pub returns-else-address-eq0-clause-exact : goal.returns-else-address-eq0-clause-exact
returns-else-address-eq0-clause-exact c = sym (number_none 2 c.args.address c.args.arena.now (omega arith) c.else-address-eq0.either)
