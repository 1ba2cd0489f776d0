-- The chains of the tuples so far, and then those of the others.
use Rattle.std.proofs.Common.{◌≡◌, ◌++◌, map, drop}
use Rattle.lang_meaning.specs.Classes.{chain}
use Rattle.lang_meaning.specs.Cells.{tuples}
use Rattle.lang_dispatch.specs.OfClasses.{with_classes}
use Rattle.lang_dispatch.specs.Chains.{maybe_seen}
use Rattle.lang_dispatch.proofs.table.chains.Given as goal

abbrev pub invariant-loop-index : goal.invariant-loop-index
invariant-loop-index l =
    map maybe_seen l.cells ++ map (chain (with_classes l.classes) l.generic) (drop l.index (tuples l.lists))
    ≡ map (chain (with_classes l.classes) l.generic) (tuples l.lists)
