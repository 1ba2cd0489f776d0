-- The first ones keep their numbers.
use Rattle.lang_dispatch.proofs.Cutting.{first_keep}
use Rattle.lang_dispatch.proofs.generics.Generics.cut.Goals as goal

pub invariant_of-self : goal.invariant_of-self
invariant_of-self c = rw c.cut.ensures (first_keep c.self.inside.rows c.args.len c.forget.new.numbers c.forget.ensures c.self.invariant.1)
