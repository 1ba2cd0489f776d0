-- The initforms of one class more.
use Rattle.std.proofs.Common.{◌≤◌, arith, length}
use Rattle.lang_reached.proofs.Looking.{class_more, classes_all}
use Rattle.lang_reached.proofs.reached.mark_initforms.Goals as goal

pub loop-at-preserved : goal.loop-at-preserved
loop-at-preserved c =
    class_more c.args.given.now.names.now c.args.given.now.program.now c.args.classes.now c.loop-at.at c.in-Some.class.now c.args.search.now c.loop-at.search
    c.mark_slots.new.search c.in-Some.ensures c.loop-at.invariant c.in_ok-mark_slots.ensures

pub returns : goal.returns
returns c =
    let classes = c.args.classes.now in
    let all : length classes ≤ c.loop-at.at = omega (arith, c.loop-at-test.false, c.len-at-end.ensures) in
    classes_all c.args.given.now.names.now c.args.given.now.program.now classes c.loop-at.at c.args.search.now c.loop-at.search all c.loop-at.invariant
