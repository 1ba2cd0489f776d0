-- Each name has its own number.
use Rattle.lang_dispatch.proofs.Naming.{own_names}
use Rattle.lang_dispatch.proofs.generics.Generics.rows.Goals as goal

pub returns-clause-named : goal.returns-clause-named
returns-clause-named c = rw (← c.self.view_is) (own_names _ _ c.self.invariant.0)
