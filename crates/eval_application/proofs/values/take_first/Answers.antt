-- It is removed from its place.
use Rattle.std.proofs.Common.{◌-◌, refl, arith}
use Rattle.eval_application.proofs.Firsts.{first_taken}
use Rattle.eval_application.proofs.values.take_first.Goals as goal

pub returns : goal.returns
returns c =
    first_taken c.args.machine.now _ c.args.count (c.len.result - c.args.count) c.remove.result c.requires.some c.requires.held (omega (arith, c.len.ensures)) c.remove.ensures.value c.remove.ensures.items refl
