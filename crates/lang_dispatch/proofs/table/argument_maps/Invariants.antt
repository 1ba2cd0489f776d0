-- The maps of the arguments so far, and the lists of those that are left.
use Rattle.std.proofs.Common.{◌≡◌, ◌+◌, ◌++◌, ℕ, Some, length, map, slice_get}
use Rattle.std.specs.List.{range_with_len}
use Rattle.lang_meaning.specs.Cells.{groups}
use Rattle.lang_dispatch.specs.OfClasses.{with_classes}
use Rattle.lang_dispatch.specs.declared.table.ArgumentMap.{ArgumentMap}
use Rattle.lang_dispatch.specs.Tables.{IsMapOf}
use Rattle.lang_dispatch.proofs.table.argument_maps.Given as goal

abbrev pub invariant-loop-argument : goal.invariant-loop-argument
invariant-loop-argument l =
    record {
      count : length l.maps.arguments ≡ l.argument;
      maps : (i : ℕ) → (a : ArgumentMap) → slice_get l.maps.arguments i ≡ Some a → IsMapOf (with_classes l.classes) l.generic i a;
      lists : (m : ℕ) → l.argument + m ≡ l.generic.required
          → l.maps.lists ++ map (groups (with_classes l.classes) l.generic) (range_with_len l.argument m)
          ≡ map (groups (with_classes l.classes) l.generic) (range_with_len 0 l.generic.required);
    }
