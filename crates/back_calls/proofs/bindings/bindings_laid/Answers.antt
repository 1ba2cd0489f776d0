-- One cell more.
use Rattle.back_calls.proofs.Laying.{laid_step}
use Rattle.back_calls.proofs.bindings.bindings_laid.Goals as goal

pub loop-i-preserved : goal.loop-i-preserved
loop-i-preserved c =
    laid_step c.args.given.now.names.now c.args.given.now.at.now c.args.given.now.program.now _ c.loop-i.code c.cell_laid.new.code c.args.list.now
    c.args.d c.args.b c.args.old c.args.t c.loop-i.i c.in-Some.binding.now c.is_end.result
    c.in-Some.ensures c.is_end.ensures c.loop-i.invariant c.in_ok-cell_laid.ensures
