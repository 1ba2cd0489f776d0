-- The answer of a run, by its end.
use Rattle.std.proofs.Common.{arith}
use Rattle.top_exec.proofs.Executed.{of_run}
use Rattle.top_exec.proofs.exec.exec.Goals as goal

pub returns-in-Ok : goal.returns-in-Ok
returns-in-Ok g c =
    of_run _ _ _ _ _ _ _ _ _ _ (omega (arith, c.words-words.ensures.exact, c.if-bounds-words.false)) c.answer_of.result c.in-Ok.end c.answer_of.ensures c.in-Ok.ensures.comes c.in-Ok.ensures.fault
