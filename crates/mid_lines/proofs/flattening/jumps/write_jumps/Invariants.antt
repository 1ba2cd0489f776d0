-- The lines stay as many; it is left to write the rest of the jumps.
use Rattle.std.proofs.Common.{◌≡◌, drop, length}
use Rattle.mid_lines.specs.Flattened.{jumps_written}
use Rattle.mid_lines.proofs.flattening.jumps.write_jumps.Given as goal

abbrev pub invariant-loop-jump : goal.invariant-loop-jump
invariant-loop-jump l =
    (length l.lines ≡ length l.fn.lines)
    × (jumps_written (drop l.jump-index l.jumps) l.end l.lines ≡ jumps_written l.jumps l.end l.fn.lines)
