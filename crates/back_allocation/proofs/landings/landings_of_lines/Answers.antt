use Rattle.back_allocation.proofs.ToldLandings.{landings_more}
use Rattle.back_allocation.proofs.landings.landings_of_lines.Goals as goal

pub loop-at-preserved : goal.loop-at-preserved
loop-at-preserved c =
    landings_more c.args.lines.now c.loop-at.at c.in-Some.line.now c.loop-at.landings _ _ c.in_ok-landings_at.field-0 c.loop-at.here c.as_slice.result.now c.in_ok-here.here
    c.as_slice-in-loop-at.result.now c.in-Some.ensures c.in_ok-push.ensures.ok c.in_ok-landings_at.ensures c.as_slice.ensures c.in_ok-here.ensures c.as_slice-in-loop-at.ensures
    c.loop-at.invariant
