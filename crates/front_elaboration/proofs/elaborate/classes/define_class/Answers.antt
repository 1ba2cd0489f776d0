-- The class, and then what its functions add.
use Rattle.front_elaboration.proofs.MakingStops.{on_err, err_then}
use Rattle.front_elaboration.proofs.MakingMethods.{same_grows}
use Rattle.front_elaboration.proofs.MakingClasses.{class_then}
use Rattle.front_elaboration.proofs.elaborate.classes.define_class.Goals as goal

pub add_slot_functions-requires : goal.add_slot_functions-requires
add_slot_functions-requires c = rw (c.in_ok-number.ensures.number, c.in_ok-number.ensures.ok) c.requires.functions

pub returns-in_err-number-clause-err : goal.returns-in_err-number-clause-err
returns-in_err-number-clause-err c = on_err _ (same_grows _ _ c.in_err-number.ensures.err)

pub returns-clause-err : goal.returns-clause-err
returns-clause-err c =
    err_then _ (class_then _ _ _ c.args.class.now c.args.of_file c.in_ok-number.ensures.ok) c.add_slot_functions.ensures.err
