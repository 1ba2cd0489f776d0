-- The class object of a word says which class the value is.
use Rattle.eval_told.proofs.Found.{class_there, no_class_there}
use Rattle.eval_told.proofs.telling.which_class.Goals as goal

pub returns-in-Some : goal.returns-in-Some
returns-in-Some c = class_there c.args.store.now c.args.word c.in-Some.object.now c.class_in.result c.in-Some.ensures c.class_in.ensures

pub returns-in-None : goal.returns-in-None
returns-in-None c = no_class_there c.args.store.now c.args.word c.in-None.ensures
