-- The sizes of the code fall; in a loop it is left to append the ways of the rest.
use Rattle.std.proofs.Common.{◌≡◌, ◌+◌, ◌++◌, drop}
use Rattle.mid_code.specs.MidCode.{step_size, code_size, codes_size, code_of}
use Rattle.mid_code.specs.model.View.{codes_of}
use Rattle.back_emit.specs.TreeWays.{code_ways, codes_ways}
use Rattle.back_emit.proofs.Deep.{DeepStays}
use Rattle.back_emit.proofs.walking.+walk.Given as goal

abbrev pub decreases-append_code_ways : goal.decreases-append_code_ways
decreases-append_code_ways l = code_size (code_of l.code.now)

abbrev pub decreases-append_step_ways : goal.decreases-append_step_ways
decreases-append_step_ways l = step_size l.step.now

abbrev pub decreases-append_choice_ways : goal.decreases-append_choice_ways
decreases-append_choice_ways l = code_size (code_of l.first.now) + code_size (code_of l.second.now)

abbrev pub decreases-append_loop_ways : goal.decreases-append_loop_ways
decreases-append_loop_ways l = code_size (code_of l.head.now) + code_size (code_of l.body.now)

abbrev pub decreases-append_record_ways : goal.decreases-append_record_ways
decreases-append_record_ways l = code_size (code_of l.inside.now) + code_size (code_of l.landing.now)

abbrev pub decreases-append_codes_ways : goal.decreases-append_codes_ways
decreases-append_codes_ways l = codes_size (codes_of l.codes.now)

abbrev pub decreases-append_lent_ways : goal.decreases-append_lent_ways
decreases-append_lent_ways l = code_size (code_of l.inside.now) + 1

abbrev pub invariant-append_code_ways-loop-step : goal.invariant-append_code_ways-loop-step
invariant-append_code_ways-loop-step l =
    (l.ways ++ code_ways l.way (code_of (drop l.step-index l.code)) ≡ l.fn.ways ++ code_ways l.way (code_of l.code))
    × DeepStays (code_ways l.way (code_of (drop l.step-index l.code))) (code_ways l.way (code_of l.code))

abbrev pub invariant-append_codes_ways-loop-case : goal.invariant-append_codes_ways-loop-case
invariant-append_codes_ways-loop-case l =
    (l.ways ++ codes_ways l.way (codes_of (drop l.case-index l.codes)) ≡ l.fn.ways ++ codes_ways l.way (codes_of l.codes))
    × DeepStays (codes_ways l.way (codes_of (drop l.case-index l.codes))) (codes_ways l.way (codes_of l.codes))
