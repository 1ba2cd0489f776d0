use Rattle.std.proofs.Common.{◌≡◌, ◌≤◌, ◌<◌, ℕ}
use Rattle.std.specs.Prelude.{◌⊎◌, slice_index}
use Rattle.back_allocation.specs.NamesFound.{owner_in}
use Rattle.back_allocation.proofs.names.are_within.Given as goal

abbrev pub invariant-loop-name : goal.invariant-loop-name
invariant-loop-name l =
    (k : ℕ) → k < l.name
    → (k ≡ owner_in l.owners k) ⊎ ((slice_index l.starts (owner_in l.owners k) ≤ k) × (k < slice_index l.ends (owner_in l.owners k)))
