-- A main form stands behind the others.
use Rattle.front_profile.specs.bridge.Growing.{tables_grow_reflexive}
use Rattle.front_scope.proofs.Keeping.{pushed_grows}
use Rattle.front_scope.proofs.scope.add_main.Goals as goal

pub returns-in-Prelude-clause-grows : goal.returns-in-Prelude-clause-grows
returns-in-Prelude-clause-grows c = tables_grow_reflexive c.args.tables.now

pub returns-in-File-clause-grows : goal.returns-in-File-clause-grows
returns-in-File-clause-grows c = pushed_grows c.push.result c.args.tables.now c.push.new.self c.args.form c.push.ensures.ok c.push.ensures.err
