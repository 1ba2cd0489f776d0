-- Conditions are the instances of those classes.
use Rattle.eval_primitives.proofs.Fitting.{condition_seen}
use Rattle.eval_primitives.proofs.primitives.Primitives.is_condition.Goals as goal

pub returns : goal.returns
returns c = condition_seen c.args.self.now c.args.store.now c.args.word c.class_of.result c.is_serious.result c.class_of.ensures c.is_serious.ensures
