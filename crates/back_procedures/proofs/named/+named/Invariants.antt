-- The sizes of the code fall; in a loop it is left to see what the rest names.
use Rattle.std.proofs.Common.{◌≡◌, ◌++◌, drop}
use Rattle.mid_code.specs.MidCode.{step_size, code_size, codes_size, code_of}
use Rattle.mid_code.specs.model.View.{codes_of}
use Rattle.back_lowering.specs.Registers as registers
use Rattle.back_procedures.proofs.named.+named.Given as goal

abbrev pub decreases-of_code : goal.decreases-of_code
decreases-of_code l = code_size (code_of l.code.now)

abbrev pub decreases-of_step : goal.decreases-of_step
decreases-of_step l = step_size l.step.now

abbrev pub decreases-of_codes : goal.decreases-of_codes
decreases-of_codes l = codes_size (codes_of l.codes.now)

abbrev pub invariant-of_code-loop-step : goal.invariant-of_code-loop-step
invariant-of_code-loop-step l = l.list ++ registers.of_code (code_of (drop l.step-index l.code)) ≡ l.initial.list ++ registers.of_code (code_of l.code)

abbrev pub invariant-of_codes-loop-case : goal.invariant-of_codes-loop-case
invariant-of_codes-loop-case l = l.list ++ registers.of_codes (codes_of (drop l.case-index l.codes)) ≡ l.initial.list ++ registers.of_codes (codes_of l.codes)
