-- The generic function, where it is new, and then the methods.
use Rattle.front_elaboration.proofs.MakingStops.{err_then}
use Rattle.front_elaboration.proofs.MakingMethods.{generic_then, same_grows}
use Rattle.front_elaboration.proofs.elaborate.methods.define_methods.Goals as goal

pub add_generic-requires : goal.add_generic-requires
add_generic-requires c = (rw c.in-New.is at c.requires).0

pub add_methods-requires : goal.add_methods-requires
add_methods-requires c = rw (c.in-Ok.ensures.number, c.in-Ok.ensures.ok) (rw c.in-New.is at c.requires).1

pub returns-in-Err-clause-err : goal.returns-in-Err-clause-err
returns-in-Err-clause-err c = same_grows _ _ c.in-Err.ensures.err

pub returns-in-Ok-clause-err : goal.returns-in-Ok-clause-err
returns-in-Ok-clause-err c =
    err_then _ (generic_then _ _ _ c.in-New.name c.in-New.required c.in-New.rest c.args.of_file c.in-Ok.ensures.ok) c.add_methods.ensures.err
