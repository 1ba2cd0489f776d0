-- The class suits the tables.
use Rattle.front_elaboration.proofs.MakingStops.{class_wants}
use Rattle.front_elaboration.proofs.MakingClasses.{class_counted}
use Rattle.front_elaboration.proofs.elaborate.classes.add_class.Goals as goal

pub define-requires-clause-in_range : goal.define-requires-clause-in_range
define-requires-clause-in_range c = rw c.as_slice-supers.ensures c.requires.there

pub want-requires : goal.want-requires
want-requires c =
    class_wants _ c.in-Err.stop c.in-Err.ensures.judged (rw c.as_slice-supers.ensures (c.requires.right (record { line = 0; column = 0 })))

pub returns-in-Ok-clause-ok : goal.returns-in-Ok-clause-ok
returns-in-Ok-clause-ok c =
    class_counted _ _ c.args.class.now c.args.of_file c.define.new.self (rw c.as_slice-supers.ensures at c.in-Ok.ensures.ok) c.note_class.ensures
