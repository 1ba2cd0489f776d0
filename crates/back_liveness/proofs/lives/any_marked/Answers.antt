use Rattle.std.proofs.Common.{arith}
use Rattle.back_liveness.proofs.Lists.{any_index}
use Rattle.back_liveness.proofs.lives.any_marked.Goals as goal

pub returns-clause-all : goal.returns-clause-all
returns-clause-all c t h after before marked =
    let f = any_index t c.args.aside.now h in
    absurd (c.loop-t.invariant f.0 t (omega arith) f.2 after before marked)
