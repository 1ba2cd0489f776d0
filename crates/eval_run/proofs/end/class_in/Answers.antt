-- The class of an object is told, and that of any other value is 0.
use Rattle.eval_run.proofs.Ending.{of_object, of_other}
use Rattle.eval_run.proofs.end.class_in.Goals as goal

pub returns-in-Object : goal.returns-in-Object
returns-in-Object c = of_object c.args.store.now c.args.word _ _ c.in-Object.is c.class_of.ensures

pub returns-in_default : goal.returns-in_default
returns-in_default c = of_other c.args.store.now c.args.word c.in_default.not-Object
