-- Those in front are bound.
use Rattle.std.proofs.Common.{◌≡◌, take}
use Rattle.front_context.specs.Spaces.{with_all}
use Rattle.front_context.proofs.spaces.bind_all.Given as goal

abbrev pub invariant-loop-one : goal.invariant-loop-one
invariant-loop-one l = l.spaces ≡ with_all (take l.one-index l.more) l.initial.spaces
