-- The row of the name, by its number.
use Rattle.std.proofs.Common.{sym, ◌∙◌}
use Rattle.lang_reached.proofs.Searching.{name_alone, named_so}
use Rattle.lang_reached.proofs.search.mark_named.Goals as goal

pub returns-in-None : goal.returns-in-None
returns-in-None c =
    name_alone c.args.given.now.names.now c.args.given.now.program.now c.args.search.now c.args.name.0
    (sym (c.requires.each c.args.name.0 c.number_of.result c.number_of.ensures.number) ∙ sym c.row_at.ensures ∙ c.in-None.is)

pub returns-in-Some : goal.returns-in-Some
returns-in-Some c =
    named_so c.args.given.now.names.now c.args.given.now.program.now c.args.search.now c.mark_callee.new.search c.args.name.0 c.in-Some.function c.mark_callee.result
    (sym (c.requires.each c.args.name.0 c.number_of.result c.number_of.ensures.number) ∙ sym c.row_at.ensures ∙ c.in-Some.is) c.mark_callee.ensures
