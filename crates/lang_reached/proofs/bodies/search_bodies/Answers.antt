-- A body that waits is looked at, until none waits.
use Rattle.lang_reached.proofs.Looking.{way_goes_on}
use Rattle.lang_reached.proofs.bodies.search_bodies.Goals as goal

pub loop-turn-preserved : goal.loop-turn-preserved
loop-turn-preserved c =
    way_goes_on c.args.given.now.names.now c.args.given.now.program.now c.args.search.now c.loop-turn.search c.next_waiting.new.search c.look_at.new.search c.in-Some.procedure
    c.loop-turn.invariant c.in-Some.ensures c.in_ok-look_at.ensures
