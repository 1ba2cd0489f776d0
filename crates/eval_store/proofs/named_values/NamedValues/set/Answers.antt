-- The name has the value, and all others have theirs.
use Rattle.eval_store.proofs.Holding.{held_set}
use Rattle.eval_store.proofs.named_values.NamedValues.set.Goals as goal

pub returns-clause-ok : goal.returns-clause-ok
returns-clause-ok c =
    λ names pairs h. held_set names c.args.self.now c.reach.new.self pairs c.args.name.0 c.number-number.result c.args.word c.reach.ensures.alike h c.number-number.ensures c.in_ok-reach.ensures.reached
