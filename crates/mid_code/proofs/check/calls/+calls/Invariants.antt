-- The sizes of the code fall; in a loop it is left to see whether the rest fits.
use Rattle.std.proofs.Common.{◌≡◌, drop}
use Rattle.mid_code.specs.MidCode.{step_size, code_size, codes_size, code_of}
use Rattle.mid_code.specs.Checked.{code_calls, codes_call}
use Rattle.mid_code.specs.model.View.{codes_of}
use Rattle.mid_code.proofs.check.calls.+calls.Given as goal

abbrev pub decreases-code_calls : goal.decreases-code_calls
decreases-code_calls l = code_size (code_of l.code.now)

abbrev pub decreases-step_calls : goal.decreases-step_calls
decreases-step_calls l = step_size l.step.now

abbrev pub invariant-code_calls-loop-step : goal.invariant-code_calls-loop-step
invariant-code_calls-loop-step l = code_calls l.procedures (code_of (drop l.step-index l.code)) ≡ code_calls l.procedures (code_of l.code)

abbrev pub decreases-codes_call : goal.decreases-codes_call
decreases-codes_call l = codes_size (codes_of l.codes.now)

abbrev pub invariant-codes_call-loop-case : goal.invariant-codes_call-loop-case
invariant-codes_call-loop-case l = codes_call l.procedures (codes_of (drop l.case-index l.codes)) ≡ codes_call l.procedures (codes_of l.codes)
