-- One method more is added, or memory is wanting.
use Rattle.std.proofs.Common.{refl, ◌∙◌}
use Rattle.front_elaboration.proofs.MakingStops.{on_err}
use Rattle.front_elaboration.proofs.MakingMethods.{no_methods, next_method, one_method, grown}
use Rattle.front_elaboration.proofs.elaborate.methods.add_methods.Goals as goal

pub loop-at-init : goal.loop-at-init
loop-at-init c = record { added = no_methods _ _ _ _ c.requires; length = refl }

pub add_method-requires : goal.add_method-requires
add_method-requires c = next_method _ _ _ _ _ _ _ _ _ c.loop-at.invariant.added c.take_head-head.ensures.item

pub loop-at-preserved : goal.loop-at-preserved
loop-at-preserved c = record {
  added = one_method _ _ _ _ _ _ _ _ _ _ _ c.loop-at.invariant.added c.take_head-head.ensures.item c.in_ok-procedure.ensures c.in_ok-add_method.ensures.ok;
  length = c.take_head-head.ensures.length ∙ c.loop-at.invariant.length;
}

pub returns-in_err-procedure-clause-err : goal.returns-in_err-procedure-clause-err
returns-in_err-procedure-clause-err c = on_err _ (grown _ _ _ _ _ _ _ _ _ c.loop-at.invariant.added c.in_ok-add_method.ensures.ok)
