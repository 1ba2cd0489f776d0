-- Each program is a lemma of its own.
use Rattle.back_worked.proofs.Handlers.{without_itself, continued, not_continuable, returning, cleanup_runs, no_catch_left, replaced, handler_fails}
use Rattle.back_worked.proofs.programs.lowered_conditions.Goals as goal

pub returns-clause-without_itself : goal.returns-clause-without_itself
returns-clause-without_itself c = without_itself

pub returns-clause-continued : goal.returns-clause-continued
returns-clause-continued c = continued

pub returns-clause-not_continuable : goal.returns-clause-not_continuable
returns-clause-not_continuable c = not_continuable

pub returns-clause-returning : goal.returns-clause-returning
returns-clause-returning c = returning

pub returns-clause-cleanup_runs : goal.returns-clause-cleanup_runs
returns-clause-cleanup_runs c = cleanup_runs

pub returns-clause-no_catch_left : goal.returns-clause-no_catch_left
returns-clause-no_catch_left c = no_catch_left

pub returns-clause-replaced : goal.returns-clause-replaced
returns-clause-replaced c = replaced

pub returns-clause-handler_fails : goal.returns-clause-handler_fails
returns-clause-handler_fails c = handler_fails
