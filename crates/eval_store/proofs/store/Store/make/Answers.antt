-- The object stands in the store, and its words and units are counted.
use Rattle.eval_store.proofs.ObjectsMade.{made_seen}
use Rattle.eval_store.proofs.store.Store.make.Goals as goal

pub returns-clause-answer : goal.returns-clause-answer
returns-clause-answer c =
    λ names b. made_seen names b c.args.limit c.args.size c.args.besides c.args.object c.args.self.now c.place.new.self c.enter.new.self c.in-Ok-place.number c.in-Ok.peak c.in-Some.units c.in-Ok.ensures c.in-Some.ensures.1 c.in-Ok-place.ensures.0 c.in-Ok-place.ensures.1 c.enter.ensures
