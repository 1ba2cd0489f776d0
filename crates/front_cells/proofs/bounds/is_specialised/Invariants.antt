-- None of those that were seen.
use Rattle.std.proofs.Common.{◌≡◌, ◌==◌, not, false, take}
use Rattle.std.specs.Prelude.{slice_index_or}
use Rattle.std.specs.List.{list_any}
use Rattle.front_cells.proofs.bounds.is_specialised.Given as goal

abbrev pub invariant-loop-method : goal.invariant-loop-method
invariant-loop-method l = list_any (λ m. not (slice_index_or m.classes l.argument 0 == 0)) (take l.method-index l.method-items) ≡ false
