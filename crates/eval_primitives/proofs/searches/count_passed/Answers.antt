-- What was passed is counted.
use Rattle.eval_primitives.proofs.Charging.{counted_passed}
use Rattle.eval_primitives.proofs.searches.count_passed.Goals as goal

pub returns-in-Ok : goal.returns-in-Ok
returns-in-Ok c = counted_passed c.args.passed c.args.store.now c.charge.new.self c.in-Ok.ensures.answer
