-- None is marked at first; then one method more is; and at the end all are.
use Rattle.std.proofs.Common.{◌≤◌, arith, length}
use Rattle.lang_reached.proofs.Searching.{method_more, methods_all}
use Rattle.lang_reached.proofs.search.mark_methods.Goals as goal

pub loop-at-preserved : goal.loop-at-preserved
loop-at-preserved c =
    method_more c.args.given.now.names.now c.args.given.now.program.now c.args.methods.now c.loop-at.at c.in-Some.method.now c.args.search.now
    c.loop-at.search c.mark_procedure.new.search c.in-Some.ensures c.loop-at.invariant c.in_ok-mark_procedure.ensures

pub returns : goal.returns
returns c =
    let rows = c.args.methods.now in
    let all : length rows ≤ c.loop-at.at = omega (arith, c.loop-at-test.false, c.len-at-end.ensures) in
    methods_all c.args.given.now.names.now c.args.given.now.program.now rows c.loop-at.at c.args.search.now c.loop-at.search all c.loop-at.invariant
