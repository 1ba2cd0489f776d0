-- The tags behind are bound.
use Rattle.std.proofs.Common.{◌≡◌, ◌+◌, ◌-◌, ◌++◌, length, drop}
use Rattle.front_context.specs.Spaces.{targets}
use Rattle.front_context.proofs.spaces.bind_tags.Given as goal

abbrev pub invariant-loop-later : goal.invariant-loop-later
invariant-loop-later l =
    l.names ≡ targets l.exit (length l.tags - l.later + 1) (drop (length l.tags - l.later) l.tags) ++ l.initial.names
