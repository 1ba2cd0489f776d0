-- The sizes of the code fall; in a loop it is left to append the lines of the rest.
use Rattle.std.proofs.Common.{◌≡◌, ◌+◌, ◌++◌, drop, length}
use Rattle.mid_code.specs.MidCode.{step_size, code_size, codes_size, code_of}
use Rattle.mid_code.specs.model.View.{codes_of}
use Rattle.mid_lines.specs.Flattened.{code_lines, codes_lines, code_targets, code_jumps}
use Rattle.mid_lines.proofs.Appending.{CodesLeft}
use Rattle.mid_lines.proofs.flattening.+flat.Given as goal

abbrev pub decreases-append_code : goal.decreases-append_code
decreases-append_code l = code_size (code_of l.code.now)

abbrev pub decreases-append_step : goal.decreases-append_step
decreases-append_step l = step_size l.step.now

abbrev pub decreases-append_choice : goal.decreases-append_choice
decreases-append_choice l = code_size (code_of l.first.now) + code_size (code_of l.second.now)

abbrev pub decreases-append_loop : goal.decreases-append_loop
decreases-append_loop l = code_size (code_of l.head.now) + code_size (code_of l.body.now)

abbrev pub decreases-append_record : goal.decreases-append_record
decreases-append_record l = code_size (code_of l.inside.now) + code_size (code_of l.landing.now)

abbrev pub invariant-append_code-loop-step : goal.invariant-append_code-loop-step
invariant-append_code-loop-step l =
    l.lines ++ code_lines (length l.lines) (code_of (drop l.step-index l.code)) ≡ l.fn.lines ++ code_lines (length l.fn.lines) (code_of l.code)

abbrev pub decreases-append_switch : goal.decreases-append_switch
decreases-append_switch l = codes_size (codes_of l.codes.now) + 1

abbrev pub decreases-append_codes : goal.decreases-append_codes
decreases-append_codes l = codes_size (codes_of l.codes.now)

abbrev pub decreases-append_lent : goal.decreases-append_lent
decreases-append_lent l = code_size (code_of l.inside.now) + 1

abbrev pub invariant-append_codes-loop-case : goal.invariant-append_codes-loop-case
invariant-append_codes-loop-case l =
    CodesLeft l.lines (l.fn.lines ++ codes_lines (length l.fn.lines) 0 (codes_of l.codes))
    l.targets (l.fn.targets ++ code_targets (length l.fn.lines) (codes_of l.codes))
    l.jumps (l.fn.jumps ++ code_jumps (length l.fn.lines) (codes_of l.codes))
    (codes_of (drop l.case-index l.codes))
