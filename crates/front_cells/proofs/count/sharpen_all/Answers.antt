-- A generic function more.
use Rattle.std.proofs.Common.{rules}
use Rattle.front_cells.proofs.Estimating.{estimate_more}
use Rattle.front_cells.proofs.count.sharpen_all.Goals as goal

pub sharpen-requires : goal.sharpen-requires
sharpen-requires c = c.requires.each c.loop-at.at c.in-Some-get.count.now c.in-Some.generic.now c.in-Some-get.ensures c.in-Some.ensures

pub loop-at-preserved : goal.loop-at-preserved
loop-at-preserved c =
    estimate_more c.loop-at.at c.args.classes.now c.args.generics.now c.in-Some.generic.now c.in_ok-sharper.sharper c.loop-at.sharp
    (record { total = c.saturating_add.result; generics = c.push.new.self }) c.in-Some.ensures c.in_ok-sharper.ensures (search rules) (search rules) c.loop-at.invariant
