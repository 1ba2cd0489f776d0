-- A place for each name that was looked at.
use Rattle.std.proofs.Common.{◌≡◌, ◌<◌, ℕ, length}
use Rattle.back_allocation.specs.Places.{place_in, place_at}
use Rattle.back_allocation.proofs.placing.places_of.Given as goal

abbrev pub invariant-loop-at : goal.invariant-loop-at
invariant-loop-at l = record {
  count : length l.places ≡ l.at;
  each : (v : ℕ) → v < l.at → place_at l.places v ≡ place_in l.constants l.spots v;
}
