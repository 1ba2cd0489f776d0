-- One function more adds what it does, or memory is wanting.
use Rattle.front_profile.specs.bridge.Growing.{tables_grow_transitive}
use Rattle.front_elaboration.proofs.MakingLists.{there}
use Rattle.front_elaboration.proofs.MakingStops.{on_err}
use Rattle.front_elaboration.proofs.MakingClasses.{no_functions, next_function, one_function, grown}
use Rattle.front_elaboration.proofs.elaborate.classes.add_slot_functions.Goals as goal

pub loop-at-init : goal.loop-at-init
loop-at-init c = no_functions _ _ _ _ _ c.requires

pub add_slot_function-requires : goal.add_slot_function-requires
add_slot_function-requires c =
    next_function _ _ _ _ _ _ _ _ _ _ c.loop-at.invariant (there c.args.functions.now c.loop-at.at c.in-Some.function.now c.in-Some.ensures)

pub returns-in_err-add_slot_function-clause-err : goal.returns-in_err-add_slot_function-clause-err
returns-in_err-add_slot_function-clause-err c =
    on_err _ (tables_grow_transitive _ _ _ c.loop-at.invariant.grows c.in_err-add_slot_function.ensures.err)

pub returns-in_err-procedure-clause-err : goal.returns-in_err-procedure-clause-err
returns-in_err-procedure-clause-err c = on_err _ (grown _ _ _ _ _ _ _ _ _ _ c.loop-at.invariant c.in_ok-add_slot_function.ensures.ok)

pub loop-at-preserved : goal.loop-at-preserved
loop-at-preserved c =
    one_function _ _ _ _ _ _ _ _ _ _ _ _ c.loop-at.invariant (there c.args.functions.now c.loop-at.at c.in-Some.function.now c.in-Some.ensures)
    c.in_ok-procedure.ensures c.in_ok-add_slot_function.ensures.ok
