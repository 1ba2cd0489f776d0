use Rattle.std.proofs.Common.{◌/◌, sym, arith}
use Rattle.rv_machine.specs.Words.{number_at-word, number_none}
use Rattle.rv_machine.proofs.machine.memory.word_at.Goals as goal

pub returns-then-place-arena : goal.returns-then-place-arena
returns-then-place-arena c = sym (number_at-word c.args.arena.now c.args.address c.if-address-eq0.true c.if-place-arena.true (c.type_inv.arena (c.args.address / 4)).fits)

pub returns-else-address-eq0 : goal.returns-else-address-eq0
returns-else-address-eq0 c = sym (number_none 4 c.args.address c.args.arena.now (omega arith) c.else-address-eq0.either)
