-- The object stands in the store.
use Rattle.eval_store.proofs.ObjectsMade.{placed_seen}
use Rattle.eval_store.proofs.store.Store.add.Goals as goal

pub returns-clause-ok : goal.returns-clause-ok
returns-clause-ok c = λ names b. placed_seen names b c.args.self.now c.place.new.self c.args.object c.in_ok-number.ensures.1
