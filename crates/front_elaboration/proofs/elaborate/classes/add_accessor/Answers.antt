-- The generic function is there, or it is a new one.
use Rattle.std.proofs.Common.{false}
use Rattle.front_elaboration.proofs.MakingStops.{on_err, err_then}
use Rattle.front_elaboration.proofs.MakingMethods.{generic_then, same_grows}
use Rattle.front_elaboration.proofs.elaborate.classes.add_accessor.Goals as goal

pub add_accessor_to-requires : goal.add_accessor_to-requires
add_accessor_to-requires c = rw c.in-Some.is at c.requires

pub add_generic-requires : goal.add_generic-requires
add_generic-requires c = (rw c.in-None.is at c.requires).0

pub returns-in-Some-clause-err : goal.returns-in-Some-clause-err
returns-in-Some-clause-err c = err_then _ (same_grows _ _) c.add_accessor_to.ensures.err

pub returns-in_err-generic-in-None-clause-err : goal.returns-in_err-generic-in-None-clause-err
returns-in_err-generic-in-None-clause-err c = on_err _ (same_grows _ _ c.in_err-generic-in-None.ensures.err)

pub returns-in_ok-generic-in-None-clause-err : goal.returns-in_ok-generic-in-None-clause-err
returns-in_ok-generic-in-None-clause-err c =
    err_then _
    (λ e. generic_then _ _ _ c.args.name c.arguments_of.result false c.args.of_file c.in_ok-generic-in-None.ensures.ok (same_grows _ _ e))
    c.add_accessor_to-in-None.ensures.err
