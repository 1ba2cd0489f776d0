use Rattle.std.proofs.Common.{arith}
use Rattle.mid_lines.proofs.Appending.{code_size_above}
use Rattle.mid_code.specs.MidCode.{code_of}
use Rattle.mid_code.specs.model.View.{codes_of}
use Rattle.back_emit.specs.TreeWays.{code_ways, codes_ways}
use Rattle.back_emit.proofs.Walked.{one_step_more, one_case_more}
use Rattle.back_emit.proofs.Deep.{steps_deep, cases_deep}
use Rattle.back_emit.proofs.walking.+walk.Goals as goal

pub append_code_ways-loop-step-preserved : goal.append_code_ways-loop-step-preserved
append_code_ways-loop-step-preserved t c = (
  one_step_more _ _ _ _ c.args.code.now _ _ _ c.as_slice-step-items.ensures c.loop-step-test.true c.step-item.is c.in_ok-append_step_ways.ensures.ok c.loop-step.invariant.0,
  steps_deep c.args.way c.args.code.now _ _ _ (code_ways c.args.way (code_of c.args.code.now)) c.as_slice-step-items.ensures c.loop-step-test.true c.step-item.is c.loop-step.invariant.1,
)

pub append_codes_ways-loop-case-preserved : goal.append_codes_ways-loop-case-preserved
append_codes_ways-loop-case-preserved t c = (
  one_case_more _ _ _ _ _ c.args.codes.now _ _ _ c.as_slice-case-items.ensures c.loop-case-test.true c.case-item.is c.in_ok-append_code_ways.ensures.ok c.in_ok-push.ensures.ok
      c.loop-case.invariant.0,
  cases_deep c.args.way c.args.codes.now _ _ _ (codes_ways c.args.way (codes_of c.args.codes.now)) c.as_slice-case-items.ensures c.loop-case-test.true c.case-item.is c.loop-case.invariant.1,
)

-- the code inside is smaller
pub append_choice_ways-append_code_ways-requires : goal.append_choice_ways-append_code_ways-requires
append_choice_ways-append_code_ways-requires t c = omega (arith, code_size_above c.args.second.now)

pub append_choice_ways-append_code_ways-requires-2 : goal.append_choice_ways-append_code_ways-requires-2
append_choice_ways-append_code_ways-requires-2 t c = omega (arith, code_size_above c.args.first.now)

pub append_loop_ways-append_code_ways-requires : goal.append_loop_ways-append_code_ways-requires
append_loop_ways-append_code_ways-requires t c = omega (arith, code_size_above c.args.body.now)

pub append_loop_ways-append_code_ways-requires-2 : goal.append_loop_ways-append_code_ways-requires-2
append_loop_ways-append_code_ways-requires-2 t c = omega (arith, code_size_above c.args.head.now)

pub append_record_ways-append_code_ways-requires : goal.append_record_ways-append_code_ways-requires
append_record_ways-append_code_ways-requires t c = omega (arith, code_size_above c.args.landing.now)

pub append_record_ways-append_code_ways-requires-2 : goal.append_record_ways-append_code_ways-requires-2
append_record_ways-append_code_ways-requires-2 t c = omega (arith, code_size_above c.args.inside.now)
