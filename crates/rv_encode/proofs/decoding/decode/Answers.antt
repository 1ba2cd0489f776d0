use Rattle.std.proofs.Common.{◌<◌, ◌^◌, arith}
use Rattle.rv_encode.proofs.Decides.{decides}
use Rattle.rv_encode.proofs.decoding.decode.Goals as goal

pub returns-clause-exact : goal.returns-clause-exact
returns-clause-exact c =
    let fits : c.args.word < 2 ^ 32 = omega arith in rw c.by_opcode.ensures (decides c.args.word fits)
