-- From where nothing is marked to where all that is reached is.
use Rattle.lang_reached.proofs.Looking.{searched_at_last, closed_at_end}
use Rattle.lang_reached.proofs.reached.reached.Goals as goal

pub search_bodies-requires-clause-searched : goal.search_bodies-requires-clause-searched
search_bodies-requires-clause-searched c =
    searched_at_last c.args.names.now c.args.program.now c.in_ok-search.search c.mark_initforms.new.search c.mark_mains.new.search c.in_ok-search.ensures
    c.in_ok-mark_initforms.ensures c.in_ok-mark_mains.ensures

pub returns-clause-closed : goal.returns-clause-closed
returns-clause-closed c =
    closed_at_end c.args.names.now c.args.program.now c.in_ok-search.search c.mark_initforms.new.search c.mark_mains.new.search c.search_bodies.new.search c.in_ok-search.ensures
    c.in_ok-mark_initforms.ensures c.in_ok-mark_mains.ensures c.in_ok-search_bodies.ensures
