-- A generic function is one.
use Rattle.eval_primitives.proofs.Seeing.{generic_there}
use Rattle.eval_primitives.proofs.kinds.is_generic_there.Goals as goal

pub returns-in-Generic : goal.returns-in-Generic
returns-in-Generic c = generic_there c.args.store.now c.args.word c.in-Some.object.now c.in-Generic._generic c.in-Some.ensures c.in-Generic.is
