-- Where no macro is called the tables are as they were.
use Rattle.front_profile.specs.bridge.Growing.{tables_grow_reflexive}
use Rattle.front_scope.proofs.calls.expand_once.Goals as goal

pub returns-in-None-clause-grows : goal.returns-in-None-clause-grows
returns-in-None-clause-grows g c = tables_grow_reflexive c.args.tables.now
