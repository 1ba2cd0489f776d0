use Rattle.std.proofs.Common.{arith}
use Rattle.mid_lines.proofs.Appending.{code_size_above}
use Rattle.back_emit.proofs.finding.+find.Goals as goal

-- the code inside is smaller
pub both_find-code_finds-requires : goal.both_find-code_finds-requires
both_find-code_finds-requires t c = omega (arith, code_size_above c.args.second.now)

pub both_find-code_finds-requires-2 : goal.both_find-code_finds-requires-2
both_find-code_finds-requires-2 t c = omega (arith, code_size_above c.args.first.now)

pub record_finds-code_finds-requires : goal.record_finds-code_finds-requires
record_finds-code_finds-requires t c = omega (arith, code_size_above c.args.landing.now)

pub record_finds-code_finds-requires-2 : goal.record_finds-code_finds-requires-2
record_finds-code_finds-requires-2 t c = omega (arith, code_size_above c.args.inside.now)
