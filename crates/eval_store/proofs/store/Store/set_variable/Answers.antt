-- The variable is set where it is there.
use Rattle.eval_store.proofs.Setting.{variable_set}
use Rattle.eval_store.proofs.store.Store.set_variable.Goals as goal

pub returns-then-number-len : goal.returns-then-number-len
returns-then-number-len c = λ names b. rw c.in-Some.is (variable_set names b c.args.self.now c.in-Some.number c.args.word)
