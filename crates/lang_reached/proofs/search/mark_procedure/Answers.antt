-- Its flag was set, and it waits; or it had one that is set, or none.
use Rattle.std.proofs.Common.{sym, ◌∙◌}
use Rattle.lang_reached.proofs.Searching.{marked_one, marked_before}
use Rattle.lang_reached.proofs.search.mark_procedure.Goals as goal

pub returns-in_ok-push : goal.returns-in_ok-push
returns-in_ok-push c =
    marked_one c.args.given.now.names.now c.args.given.now.program.now c.args.search.now c.args.procedure (sym c.is_unmarked.ensures ∙ c.if-is_unmarked.true)
    c.replace.new.self c.push.new.self c.replace.ensures.now c.in_ok-push.ensures.ok

pub returns-else-is_unmarked : goal.returns-else-is_unmarked
returns-else-is_unmarked c =
    marked_before c.args.given.now.names.now c.args.given.now.program.now c.args.search.now c.args.procedure (sym c.is_unmarked.ensures ∙ c.if-is_unmarked.false)
