-- Where no site is, the tables are as they were.
use Rattle.front_profile.specs.bridge.Growing.{tables_grow_reflexive}
use Rattle.front_drafts.proofs.take.symbol_form.Goals as goal

pub returns-then-not-here-clause-grows : goal.returns-then-not-here-clause-grows
returns-then-not-here-clause-grows c = tables_grow_reflexive _
