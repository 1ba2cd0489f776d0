-- What is found of the arguments so far, and the arguments that are left.
use Rattle.std.proofs.Common.{◌≡◌, ℕ, ◌≤◌, ◌+◌, ◌++◌, map, filter, length}
use Rattle.std.specs.List.{range_with_len}
use Rattle.lang_meaning.specs.Cells.{groups, is_specialised}
use Rattle.lang_dispatch.specs.OfClasses.{with_classes}
use Rattle.lang_dispatch.proofs.cells.generic_groups.Given as goal

abbrev pub invariant-loop-argument : goal.invariant-loop-argument
invariant-loop-argument l =
    record {
      fits : l.specialised ≤ l.argument;
      lists : (m : ℕ) → l.argument + m ≡ l.generic.required
          → l.lists ++ map (groups (with_classes l.classes) l.generic) (range_with_len l.argument m)
          ≡ map (groups (with_classes l.classes) l.generic) (range_with_len 0 l.generic.required);
      specialised : (m : ℕ) → l.argument + m ≡ l.generic.required
          → l.specialised + length (filter (is_specialised l.generic) (range_with_len l.argument m))
          ≡ length (filter (is_specialised l.generic) (range_with_len 0 l.generic.required));
    }
