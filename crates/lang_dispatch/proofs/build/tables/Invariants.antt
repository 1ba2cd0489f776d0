-- The tables so far.
use Rattle.std.proofs.Common.{◌≡◌, ℕ, Some, length, slice_get}
use Rattle.lang_meaning.specs.declared.program.GenericRow.{GenericRow}
use Rattle.lang_dispatch.specs.OfClasses.{with_classes}
use Rattle.lang_dispatch.specs.declared.table.Table.{Table}
use Rattle.lang_dispatch.specs.Tables.{IsTableOf}
use Rattle.lang_dispatch.proofs.build.tables.Given as goal

abbrev pub invariant-loop-generic : goal.invariant-loop-generic
invariant-loop-generic l =
    record {
      count : length l.found ≡ l.generic-index;
      each : (i : ℕ) → (g : GenericRow) → (t : Table) → slice_get l.generics i ≡ Some g → slice_get l.found i ≡ Some t
          → IsTableOf (with_classes l.classes) g t;
    }
