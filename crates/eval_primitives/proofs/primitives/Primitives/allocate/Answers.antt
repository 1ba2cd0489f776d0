-- The instance has as many slots as its class.
use Rattle.eval_primitives.proofs.Looking.{allocated}
use Rattle.eval_primitives.proofs.primitives.Primitives.allocate.Goals as goal

pub returns-else-count : goal.returns-else-count
returns-else-count c = allocated c.args.self.now c.args.limit c.args.store.now c.instance.new.store c.args.word c.in-Some.class c.in-Some-slots_to_make.count c.instance_words-words.result c.instance.result c.in-Some.ensures c.in-Some-slots_to_make.ensures c.instance_words-words.ensures c.instance.ensures
