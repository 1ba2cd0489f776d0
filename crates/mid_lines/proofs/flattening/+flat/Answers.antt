use Rattle.std.proofs.Common.{arith}
use Rattle.mid_code.specs.MidCode.{code_of}
use Rattle.mid_code.specs.model.View.{codes_of}
use Rattle.mid_lines.proofs.Appending.{code_size_above, grown, one_more, as_long, codes_grown, written_as_long, appended_more, code_appended, jumps_within, choice_written, switch_written, loop_written, record_written}
use Rattle.mid_lines.proofs.flattening.+flat.Goals as goal

pub append_code-loop-step-preserved : goal.append_code-loop-step-preserved
append_code-loop-step-preserved t c =
    appended_more _ _ _ _ _ _ _ c.as_slice-step-items.ensures c.loop-step-test.true c.step-item.is c.in_ok-append_step.ensures c.loop-step.invariant

pub append_choice-returns : goal.append_choice-returns
append_choice-returns t c =
    choice_written (code_of c.args.first.now) (code_of c.args.second.now) c.args.test _ _ _ _ _ _ _ _ _ _ _ _ _ _ _ _ _
    c.len-branch_at.ensures c.in_ok-push.ensures.ok c.in_ok-append_code.ensures c.len-jump_at.ensures c.in_ok-push-2.ensures.ok
    c.len-otherwise.ensures c.in_ok-append_code-2.ensures c.len-last_at.ensures c.in_ok-push-3.ensures.ok c.len-end.ensures
    c.replace.ensures.now c.replace-2.ensures.now c.replace-3.ensures.now

pub append_loop-returns : goal.append_loop-returns
append_loop-returns t c =
    loop_written c.args.counted (code_of c.args.head.now) (code_of c.args.body.now) c.args.test _ _ _ _ _ _ _ _ _ _
    c.len-start.ensures c.in_ok-append_code.ensures c.len-branch_at.ensures c.in_ok-push.ensures.ok c.in_ok-append_code-2.ensures
    c.in_ok-push-2.ensures.ok c.len-otherwise.ensures c.replace.ensures.now

pub append_record-returns : goal.append_record-returns
append_record-returns t c =
    record_written c.args.block c.args.words c.args.word (code_of c.args.inside.now) (code_of c.args.landing.now) _ _ _ _ _ _ _ _ _ _ _ _ _ _ _ _
    c.len-lay_at.ensures c.in_ok-push.ensures.ok c.in_ok-append_code.ensures c.in_ok-push-2.ensures.ok c.len-jump_at.ensures
    c.in_ok-push-3.ensures.ok c.len-landing_at.ensures c.in_ok-push-4.ensures.ok c.in_ok-append_code-2.ensures c.in_ok-push-5.ensures.ok c.len-end.ensures
    c.replace.ensures.now c.replace-2.ensures.now

pub append_codes-loop-case-preserved : goal.append_codes-loop-case-preserved
append_codes-loop-case-preserved t c =
    code_appended _ _ _ _ _ _ _ _ _ _ _ _ _ _ _ _ c.as_slice-case-items.ensures c.loop-case-test.true c.case-item.is
    c.len.ensures c.in_ok-push.ensures.ok c.in_ok-append_code.ensures c.len-in-loop-case.ensures c.in_ok-push-2.ensures.ok c.in_ok-push-3.ensures.ok
    c.loop-case.invariant

pub append_switch-write_jumps-requires : goal.append_switch-write_jumps-requires
append_switch-write_jumps-requires t c =
    jumps_within (codes_of c.args.codes.now) _ _ _ _ c.new-jumps.ensures c.in_ok-append_codes.ensures.appended c.in_ok-append_codes.ensures.left

pub append_switch-returns : goal.append_switch-returns
append_switch-returns t c =
    switch_written c.args.register (codes_of c.args.codes.now) _ _ _ _ _ _ _ _ _ _ _ _
    c.len-switch_at.ensures c.in_ok-push.ensures.ok c.new-targets.ensures c.new-jumps.ensures
    c.in_ok-append_codes.ensures.appended c.in_ok-append_codes.ensures.begun c.in_ok-append_codes.ensures.left
    c.len-end.ensures c.write_jumps.ensures c.replace.ensures.now

pub append_switch-replace-requires : goal.append_switch-replace-requires
append_switch-replace-requires t c =
    omega (
      arith,
      c.len-switch_at.ensures,
      one_more _ _ _ c.in_ok-push.ensures.ok,
      codes_grown (codes_of c.args.codes.now) _ _ c.in_ok-append_codes.ensures.appended,
      written_as_long c.append_codes.new.jumps c.len-end.result _ _ c.write_jumps.ensures,
    )

-- the code inside is smaller
pub append_choice-append_code-requires : goal.append_choice-append_code-requires
append_choice-append_code-requires t c = omega (arith, code_size_above c.args.second.now)

pub append_choice-append_code-requires-2 : goal.append_choice-append_code-requires-2
append_choice-append_code-requires-2 t c = omega (arith, code_size_above c.args.first.now)

pub append_loop-append_code-requires : goal.append_loop-append_code-requires
append_loop-append_code-requires t c = omega (arith, code_size_above c.args.body.now)

pub append_loop-append_code-requires-2 : goal.append_loop-append_code-requires-2
append_loop-append_code-requires-2 t c = omega (arith, code_size_above c.args.head.now)

pub append_record-append_code-requires : goal.append_record-append_code-requires
append_record-append_code-requires t c = omega (arith, code_size_above c.args.landing.now)

pub append_record-append_code-requires-2 : goal.append_record-append_code-requires-2
append_record-append_code-requires-2 t c = omega (arith, code_size_above c.args.inside.now)

-- a line that is written again is there
pub append_choice-replace-requires : goal.append_choice-replace-requires
append_choice-replace-requires t c =
    omega (
      arith,
      c.len-branch_at.ensures,
      one_more _ _ _ c.in_ok-push.ensures.ok,
      grown c.args.first.now _ _ c.in_ok-append_code.ensures,
      one_more _ _ _ c.in_ok-push-2.ensures.ok,
      grown c.args.second.now _ _ c.in_ok-append_code-2.ensures,
      one_more _ _ _ c.in_ok-push-3.ensures.ok,
    )

pub append_choice-replace-requires-2 : goal.append_choice-replace-requires-2
append_choice-replace-requires-2 t c =
    omega (
      arith,
      c.len-jump_at.ensures,
      one_more _ _ _ c.in_ok-push-2.ensures.ok,
      grown c.args.second.now _ _ c.in_ok-append_code-2.ensures,
      one_more _ _ _ c.in_ok-push-3.ensures.ok,
      as_long _ _ _ _ c.replace.ensures.now,
    )

pub append_choice-replace-requires-3 : goal.append_choice-replace-requires-3
append_choice-replace-requires-3 t c =
    omega (arith, c.len-last_at.ensures, one_more _ _ _ c.in_ok-push-3.ensures.ok, as_long _ _ _ _ c.replace.ensures.now, as_long _ _ _ _ c.replace-2.ensures.now)

pub append_loop-replace-requires : goal.append_loop-replace-requires
append_loop-replace-requires t c =
    omega (arith, c.len-branch_at.ensures, one_more _ _ _ c.in_ok-push.ensures.ok, grown c.args.body.now _ _ c.in_ok-append_code-2.ensures, one_more _ _ _ c.in_ok-push-2.ensures.ok)

pub append_record-replace-requires : goal.append_record-replace-requires
append_record-replace-requires t c =
    omega (
      arith,
      c.len-lay_at.ensures,
      one_more _ _ _ c.in_ok-push.ensures.ok,
      grown c.args.inside.now _ _ c.in_ok-append_code.ensures,
      one_more _ _ _ c.in_ok-push-2.ensures.ok,
      one_more _ _ _ c.in_ok-push-3.ensures.ok,
      one_more _ _ _ c.in_ok-push-4.ensures.ok,
      grown c.args.landing.now _ _ c.in_ok-append_code-2.ensures,
      one_more _ _ _ c.in_ok-push-5.ensures.ok,
    )

pub append_record-replace-requires-2 : goal.append_record-replace-requires-2
append_record-replace-requires-2 t c =
    omega (
      arith,
      c.len-jump_at.ensures,
      one_more _ _ _ c.in_ok-push-3.ensures.ok,
      one_more _ _ _ c.in_ok-push-4.ensures.ok,
      grown c.args.landing.now _ _ c.in_ok-append_code-2.ensures,
      one_more _ _ _ c.in_ok-push-5.ensures.ok,
      as_long _ _ _ _ c.replace.ensures.now,
    )
