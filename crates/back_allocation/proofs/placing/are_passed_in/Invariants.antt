use Rattle.std.proofs.Common.{◌≡◌, ◌≤◌, ◌<◌, ℕ, true}
use Rattle.back_allocation.specs.Names.{IsPassedIn}
use Rattle.back_allocation.specs.NamesFound.{owner_in}
use Rattle.back_allocation.specs.Places.{place_in, begins_in}
use Rattle.back_allocation.proofs.placing.are_passed_in.Given as goal

abbrev pub invariant-loop-name : goal.invariant-loop-name
invariant-loop-name l =
    (k : ℕ) → l.registers ≤ k → k < l.name → begins_in l.chosen.lives k ≡ true
    → IsPassedIn (owner_in l.owners k) (place_in l.chosen.constants.items l.chosen.allocation.spots.items k)
