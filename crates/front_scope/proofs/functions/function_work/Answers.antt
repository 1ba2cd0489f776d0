-- A function of a body takes nothing of the tables.
use Rattle.front_profile.specs.bridge.Growing.{tables_grow_reflexive}
use Rattle.front_scope.proofs.functions.function_work.Goals as goal

pub returns-in-Initform-clause-grows : goal.returns-in-Initform-clause-grows
returns-in-Initform-clause-grows c = tables_grow_reflexive c.args.tables.now

pub returns-in-Method-clause-grows : goal.returns-in-Method-clause-grows
returns-in-Method-clause-grows c = tables_grow_reflexive c.args.tables.now
