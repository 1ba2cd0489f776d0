-- The sizes of the code fall; in a loop, all is found where the rest is.
use Rattle.std.proofs.Common.{◌≡◌, ◌+◌, drop}
use Rattle.mid_code.specs.MidCode.{step_size, code_size, codes_size, code_of}
use Rattle.mid_code.specs.model.View.{codes_of}
use Rattle.back_trivial.specs.FrameFound.{code_finds, codes_find}
use Rattle.back_emit.specs.Ways.{way_of}
use Rattle.back_emit.specs.TreeWays.{code_ways, codes_ways}
use Rattle.back_emit.proofs.Deep.{DeepStays}
use Rattle.back_emit.proofs.finding.+find.Given as goal

abbrev pub decreases-code_finds : goal.decreases-code_finds
decreases-code_finds l = code_size (code_of l.code.now)

abbrev pub decreases-step_finds : goal.decreases-step_finds
decreases-step_finds l = step_size l.step.now

abbrev pub decreases-both_find : goal.decreases-both_find
decreases-both_find l = code_size (code_of l.first.now) + code_size (code_of l.second.now)

abbrev pub decreases-record_finds : goal.decreases-record_finds
decreases-record_finds l = code_size (code_of l.inside.now) + code_size (code_of l.landing.now)

abbrev pub decreases-codes_find : goal.decreases-codes_find
decreases-codes_find l = codes_size (codes_of l.codes.now)

abbrev pub decreases-lent_finds : goal.decreases-lent_finds
decreases-lent_finds l = code_size (code_of l.inside.now) + 1

abbrev pub invariant-code_finds-loop-step : goal.invariant-code_finds-loop-step
invariant-code_finds-loop-step l =
    (code_finds l.size.slots l.size.frame (way_of l.way) (code_of (drop l.step-index l.code)) ≡ code_finds l.size.slots l.size.frame (way_of l.way) (code_of l.code))
    × DeepStays (code_ways l.way (code_of (drop l.step-index l.code))) (code_ways l.way (code_of l.code))

abbrev pub invariant-codes_find-loop-case : goal.invariant-codes_find-loop-case
invariant-codes_find-loop-case l =
    (codes_find l.size.slots l.size.frame (way_of l.way) (codes_of (drop l.case-index l.codes)) ≡ codes_find l.size.slots l.size.frame (way_of l.way) (codes_of l.codes))
    × DeepStays (codes_ways l.way (codes_of (drop l.case-index l.codes))) (codes_ways l.way (codes_of l.codes))
