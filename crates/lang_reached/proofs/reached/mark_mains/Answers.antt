-- One main form more.
use Rattle.std.proofs.Common.{◌≤◌, arith, length}
use Rattle.lang_reached.proofs.Looking.{main_more, mains_all}
use Rattle.lang_reached.proofs.reached.mark_mains.Goals as goal

pub loop-at-preserved : goal.loop-at-preserved
loop-at-preserved c =
    main_more c.args.given.now.names.now c.args.given.now.program.now c.args.main.now c.loop-at.at c.in-Some.form.now c.args.search.now c.loop-at.search
    c.mark_form.new.search c.in-Some.ensures c.loop-at.invariant c.in_ok-mark_form.ensures

pub returns : goal.returns
returns c =
    let main = c.args.main.now in
    let all : length main ≤ c.loop-at.at = omega (arith, c.loop-at-test.false, c.len-at-end.ensures) in
    mains_all c.args.given.now.names.now c.args.given.now.program.now main c.loop-at.at c.args.search.now c.loop-at.search all c.loop-at.invariant
