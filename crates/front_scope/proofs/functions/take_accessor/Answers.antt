-- Variables and a literal stand behind the others.
use Rattle.std.proofs.Common.{◌∷◌, [], Some, arith}
use Rattle.front_profile.specs.bridge.Growing.{tables_grow_reflexive, grows_with, nothing_added}
use Rattle.front_scope.proofs.functions.take_accessor.Goals as goal

pub returns-in_default-clause-grows : goal.returns-in_default-clause-grows
returns-in_default-clause-grows c = tables_grow_reflexive c.args.tables.now

pub returns-in_err-push-clause-grows : goal.returns-in_err-push-clause-grows
returns-in_err-push-clause-grows c = rw c.in_err-push.ensures.err (tables_grow_reflexive c.args.tables.now)

pub returns-clause-grows : goal.returns-clause-grows
returns-clause-grows c =
    rw c.in_ok-push.ensures.ok
    (grows_with c.args.tables.now c.args.tables.now (record nothing_added { literals = Some (_ ∷ []) }) c.in-Some.behind c.args.tables.now.exits (omega arith) (omega arith)
    (tables_grow_reflexive c.args.tables.now))
