-- All kinds of objects were laid, one after another.
use Rattle.eval_store.proofs.Standing.{is_laid_out}
use Rattle.eval_store.proofs.initial_heap.lay_initial_heap.Goals as goal

pub returns : goal.returns
returns c =
    is_laid_out c.args.names.now c.args.program.now c.args.spellings c.len.result c.in_ok-first.first c.in_ok-functions.functions c.in_ok-literals.literals c.in_ok-slots.slots
    c.requires.empty c.requires.spelling c.len.ensures c.in_ok-first.ensures c.in_ok-functions.ensures c.in_ok-literals.ensures c.in_ok-slots.ensures
