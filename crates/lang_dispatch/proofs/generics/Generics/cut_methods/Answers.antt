-- No name is another, and a row with fewer methods is whole.
use Rattle.lang_dispatch.proofs.Cutting.{names-with_first, whole-first}
use Rattle.lang_dispatch.proofs.generics.Generics.cut_methods.Goals as goal

pub invariant_of-self : goal.invariant_of-self
invariant_of-self c =
    let rows = c.self.inside.rows in
    rw (c.cut_methods.ensures, names-with_first rows c.args.generic c.args.len)
    (c.self.invariant.0, whole-first rows c.args.generic c.args.len c.self.invariant.1)
