-- A class more is found by its name, and the others as before.
use Rattle.lang_classes.proofs.Adding.{pushed}
use Rattle.lang_classes.proofs.table.ClassTable.add.Goals as goal

pub invariant_of-self-in-Ok : goal.invariant_of-self-in-Ok
invariant_of-self-in-Ok c =
    pushed _ c.args.self.now c.args.row c.args.own c.self.inside.numbers c.insert.new.self _ _ c.len-number.result
    c.self.view_is c.self.invariant c.requires.new c.requires.right c.len-number.ensures c.in-Ok.ensures.updates
    c.in_ok-push.ensures.ok c.in_default.ensures.ok

pub returns-in-Ok-clause-classes : goal.returns-in-Ok-clause-classes
returns-in-Ok-clause-classes c =
    (pushed _ c.args.self.now c.args.row c.args.own c.self.inside.numbers c.insert.new.self _ _ c.len-number.result
    c.self.view_is c.self.invariant c.requires.new c.requires.right c.len-number.ensures c.in-Ok.ensures.updates
    c.in_ok-push.ensures.ok c.in_default.ensures.ok).classes
