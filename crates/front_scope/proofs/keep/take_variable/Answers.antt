-- The next variable has a higher number.
use Rattle.std.proofs.Common.{arith}
use Rattle.front_profile.specs.bridge.Growing.{tables_grow_reflexive, grows_with, nothing_added}
use Rattle.front_scope.proofs.keep.take_variable.Goals as goal

pub returns-in_default-clause-grows : goal.returns-in_default-clause-grows
returns-in_default-clause-grows c = tables_grow_reflexive c.args.tables.now

pub returns-clause-grows : goal.returns-clause-grows
returns-clause-grows c =
    grows_with c.args.tables.now c.args.tables.now nothing_added c.in-Some.behind c.args.tables.now.exits (omega arith) (omega arith) (tables_grow_reflexive c.args.tables.now)
