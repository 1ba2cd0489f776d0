-- A literal stands behind the others.
use Rattle.std.proofs.Common.{◌∷◌, [], Some}
use Rattle.front_profile.specs.bridge.Growing.{tables_grow_reflexive, grows_by, nothing_added}
use Rattle.front_drafts.proofs.take.push_literal.Goals as goal

pub returns-in_err-push-clause-grows : goal.returns-in_err-push-clause-grows
returns-in_err-push-clause-grows c = rw c.in_err-push.ensures.err (tables_grow_reflexive c.args.tables.now)

pub returns-clause-grows : goal.returns-clause-grows
returns-clause-grows c =
    rw c.in_ok-push.ensures.ok
    (grows_by c.args.tables.now c.args.tables.now (record nothing_added { literals = Some (_ ∷ []) }) (tables_grow_reflexive c.args.tables.now))
