-- What the store has under the word.
use Rattle.eval_step.proofs.Streaming.{side_fetched, no_side}
use Rattle.eval_step.proofs.streams.is_output.Goals as goal

pub returns-in-Some : goal.returns-in-Some
returns-in-Some c = side_fetched c.args.store.now c.args.word c.in-Some.object.now c.side_of.result c.in-Some.ensures c.side_of.ensures

pub returns-in-None : goal.returns-in-None
returns-in-None c = no_side c.args.store.now c.args.word c.in-None.ensures
