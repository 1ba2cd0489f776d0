-- A body more was asked.
use Rattle.back_tables.proofs.Tabling.{asked_more}
use Rattle.back_tables.proofs.bodies.asking_bodies.Goals as goal

pub loop-at-preserved : goal.loop-at-preserved
loop-at-preserved c =
    asked_more c.args.procedures.now c.loop-at.at c.in-Some.procedure.now c.loop-at.flags c.push.new.self c.asks_site.result
    c.in-Some.ensures c.loop-at.invariant c.asks_site.ensures c.in_ok-push.ensures.ok
