use Rattle.mid_code.proofs.Examples.{requested, no_room, loaded, not_lent, stored, not_stored, drawn, exhausted}
use Rattle.mid_code.proofs.worked.worked_words.Goals as goal

pub returns-clause-requested : goal.returns-clause-requested
returns-clause-requested c = requested

pub returns-clause-no_room : goal.returns-clause-no_room
returns-clause-no_room c = no_room

pub returns-clause-loaded : goal.returns-clause-loaded
returns-clause-loaded c = loaded

pub returns-clause-not_lent : goal.returns-clause-not_lent
returns-clause-not_lent c = not_lent

pub returns-clause-stored : goal.returns-clause-stored
returns-clause-stored c = stored

pub returns-clause-not_stored : goal.returns-clause-not_stored
returns-clause-not_stored c = not_stored

pub returns-clause-drawn : goal.returns-clause-drawn
returns-clause-drawn c = drawn

pub returns-clause-exhausted : goal.returns-clause-exhausted
returns-clause-exhausted c = exhausted
