-- The first things are still bound.
use Rattle.std.proofs.Common.{◌≡◌, ◌-◌, ◌+◌, length, take}
use Rattle.front_context.proofs.bindings.Bindings.cut.Given as goal

abbrev pub invariant-loop : goal.invariant-loop
invariant-loop l = l.self ≡ take (length l.initial.self - (l.counter - l.initial.counter)) l.initial.self
