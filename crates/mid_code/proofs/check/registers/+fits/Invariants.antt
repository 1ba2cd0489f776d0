-- The sizes of the code fall; in a loop it is left to see whether the rest fits.
use Rattle.std.proofs.Common.{◌≡◌, drop}
use Rattle.mid_code.specs.MidCode.{step_size, code_size, codes_size, code_of}
use Rattle.mid_code.specs.Checked.{code_fits, codes_fit}
use Rattle.mid_code.specs.model.View.{codes_of}
use Rattle.mid_code.proofs.check.registers.+fits.Given as goal

abbrev pub decreases-code_fits : goal.decreases-code_fits
decreases-code_fits l = code_size (code_of l.code.now)

abbrev pub decreases-step_fits : goal.decreases-step_fits
decreases-step_fits l = step_size l.step.now

abbrev pub invariant-code_fits-loop-step : goal.invariant-code_fits-loop-step
invariant-code_fits-loop-step l = code_fits l.count (code_of (drop l.step-index l.code)) ≡ code_fits l.count (code_of l.code)

abbrev pub decreases-codes_fit : goal.decreases-codes_fit
decreases-codes_fit l = codes_size (codes_of l.codes.now)

abbrev pub invariant-codes_fit-loop-case : goal.invariant-codes_fit-loop-case
invariant-codes_fit-loop-case l = codes_fit l.count (codes_of (drop l.case-index l.codes)) ≡ codes_fit l.count (codes_of l.codes)
