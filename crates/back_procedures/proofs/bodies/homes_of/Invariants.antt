-- The homes so far.
use Rattle.std.proofs.Common.{◌≡◌, take}
use Rattle.back_procedures.proofs.bodies.homes_of.Given as goal

abbrev pub invariant-loop-home : goal.invariant-loop-home
invariant-loop-home l = l.list ≡ take l.home-index l.home-items
