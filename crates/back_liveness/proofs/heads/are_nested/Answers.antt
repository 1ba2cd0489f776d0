use Rattle.std.proofs.Common.{◌<◌, length, arith}
use Rattle.back_liveness.proofs.Lists.{beyond}
use Rattle.back_liveness.proofs.heads.are_nested.Goals as goal

pub returns-clause-nested : goal.returns-clause-nested
returns-clause-nested c w h t above below =
    let there : h < length c.args.latest.now = beyond c.args.latest.now h t above below in
    c.loop-h.invariant h t (omega arith) above below
