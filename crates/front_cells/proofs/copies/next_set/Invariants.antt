-- None of those that were passed has its flag set.
use Rattle.std.proofs.Common.{◌≡◌, ℕ, List, filter, drop}
use Rattle.lang_meaning.specs.Lookup.{is_in}
use Rattle.front_cells.specs.Flags.{AreFlags}
use Rattle.front_cells.proofs.copies.next_set.Given as goal

abbrev pub invariant-loop-at : goal.invariant-loop-at
invariant-loop-at l =
    (column : List ℕ) → AreFlags column l.flags → filter (λ d. is_in d column) (drop l.from l.list) ≡ filter (λ d. is_in d column) (drop l.at l.list)
