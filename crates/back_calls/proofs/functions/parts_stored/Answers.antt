-- One part more.
use Rattle.back_calls.proofs.Laying.{part_step}
use Rattle.back_calls.proofs.functions.parts_stored.Goals as goal

pub loop-i-preserved : goal.loop-i-preserved
loop-i-preserved c =
    part_step c.args.given.now.names.now c.args.given.now.at.now c.args.given.now.program.now _ c.loop-i.code c.part_into.new.code c.store_far.new.code c.args.scope.now
    c.args.parts.now c.args.d c.args.t c.loop-i.i c.in-Some.part.now
    c.in-Some.ensures c.loop-i.invariant c.in_ok-part_into.ensures c.in_ok-store_far.ensures
