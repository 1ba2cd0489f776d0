-- The lines so far are written.
use Rattle.std.proofs.Common.{◌≡◌, take}
use Rattle.std.specs.Prelude.{flat_map}
use Rattle.mid_arena.specs.Steps.{steps_of}
use Rattle.mid_arena.proofs.writing.written.Given as goal

abbrev pub invariant-loop-line : goal.invariant-loop-line
invariant-loop-line l = l.body ≡ flat_map steps_of (take l.line-index l.line-items)
