-- A name without a number is not there, and each name has its own number.
use Rattle.std.proofs.Common.{sym}
use Rattle.lang_dispatch.proofs.Naming.{no_name, own_names}
use Rattle.lang_dispatch.proofs.generics.Generics.find.Goals as goal

pub returns-in-None-clause-id : goal.returns-in-None-clause-id
returns-in-None-clause-id c = rw (← c.self.view_is) (no_name _ _ c.args.name.0 c.self.invariant.0 (sym c.in-None.ensures.value))

pub returns-in-None-clause-named : goal.returns-in-None-clause-named
returns-in-None-clause-named c = rw (← c.self.view_is) (own_names _ _ c.self.invariant.0)

pub returns-in-Some-clause-named : goal.returns-in-Some-clause-named
returns-in-Some-clause-named c = rw (← c.self.view_is) (own_names _ _ c.self.invariant.0)
