-- Each turn takes one more slot, and the first wrong one stops.
use Rattle.std.proofs.Common.{arith, ◌∙◌}
use Rattle.lang_classes.proofs.Judging.{names_turn, goes_on, too_many, passes, stops}
use Rattle.lang_classes.proofs.judged.judge_slots.Goals as goal

pub returns-then-len-gt-SLOT_LIMIT-clause-judged : goal.returns-then-len-gt-SLOT_LIMIT-clause-judged
returns-then-len-gt-SLOT_LIMIT-clause-judged c =
    too_many c.args.place _ c.in_ok-names.names _ c.refused.result c.in_ok-names.ensures (omega (arith, c.len.ensures)) c.refused.ensures

pub returns-in-Err-clause-judged : goal.returns-in-Err-clause-judged
returns-in-Err-clause-judged c =
    stops c.args.place _ c.in_ok-names.names c.loop-at.names c.args.slots.now c.loop-at.at c.index-slots-at.result c.in-Err.stop
    c.in_ok-names.ensures (omega (arith, c.len.ensures)) c.loop-at-test.true c.index-slots-at.is
    c.loop-at.invariant.names c.loop-at.invariant.left c.in-Err.ensures.judged

pub loop-at-preserved : goal.loop-at-preserved
loop-at-preserved c = record {
  names = c.in_default.ensures.names ∙ names_turn _ c.args.slots.now c.loop-at.at c.index-slots-at.result c.loop-at.names c.loop-at-test.true c.index-slots-at.is c.loop-at.invariant.names;
  few = c.in_default.ensures.few;
  left = goes_on _ c.loop-at.names c.args.slots.now c.loop-at.at c.index-slots-at.result c.loop-at-test.true c.index-slots-at.is c.loop-at.invariant.names c.loop-at.invariant.left c.in_default.ensures.judged;
}

pub returns-clause-judged : goal.returns-clause-judged
returns-clause-judged c =
    passes c.args.place _ c.in_ok-names.names c.args.slots.now c.loop-at.at c.in_ok-names.ensures (omega (arith, c.len.ensures)) (omega arith) c.loop-at.invariant.left
