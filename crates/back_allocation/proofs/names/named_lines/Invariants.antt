use Rattle.std.proofs.Common.{◌≡◌, ℕ, length, Some}
use Rattle.std.specs.Prelude.{slice_get}
use Rattle.mid_lines.specs.declared.line.Line.{Line}
use Rattle.back_allocation.specs.Names.{IsNaming}
use Rattle.back_allocation.specs.NamesFound.{owner_in}
use Rattle.back_allocation.proofs.names.named_lines.Given as goal

abbrev pub invariant-loop-at : goal.invariant-loop-at
invariant-loop-at l = record {
  count : length l.named ≡ l.at;
  each : (line : ℕ) (x y : Line) → slice_get l.lines line ≡ Some x → slice_get l.named line ≡ Some y
      → IsNaming (owner_in l.names.owners.items) (length l.names.owners.items) x y;
}
