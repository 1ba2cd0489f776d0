-- Its flag was set, and its methods are marked; or it had one that is set, or none.
use Rattle.std.proofs.Common.{sym, ◌∙◌}
use Rattle.lang_reached.proofs.Searching.{generic_marked, generic_alone, generic_before}
use Rattle.lang_reached.proofs.search.mark_generic.Goals as goal

pub returns-in_ok-mark_methods : goal.returns-in_ok-mark_methods
returns-in_ok-mark_methods c =
    generic_marked c.args.given.now.names.now c.args.given.now.program.now c.args.search.now c.mark_methods.new.search c.args.generic c.in-Some.row.now c.in-Some.ensures
    (sym c.is_unmarked.ensures ∙ c.if-is_unmarked.true) c.replace.new.self c.replace.ensures.now c.in_ok-mark_methods.ensures

pub returns-in_default : goal.returns-in_default
returns-in_default c =
    generic_alone c.args.given.now.names.now c.args.given.now.program.now c.args.search.now c.args.generic c.in_default.ensures
    (sym c.is_unmarked.ensures ∙ c.if-is_unmarked.true) c.replace.new.self c.replace.ensures.now

pub returns-else-is_unmarked : goal.returns-else-is_unmarked
returns-else-is_unmarked c =
    generic_before c.args.given.now.names.now c.args.given.now.program.now c.args.search.now c.args.generic (sym c.is_unmarked.ensures ∙ c.if-is_unmarked.false)
