-- The chains so far, and those to come.
use Rattle.std.proofs.Common.{map, drop}
use Rattle.lang_meaning.specs.Cells.{tuples}
use Rattle.lang_meaning.specs.Classes.{chain}
use Rattle.lang_dispatch.specs.OfClasses.{with_classes}
use Rattle.back_laying.proofs.ChainCells.{ChainsSoFar}
use Rattle.back_laying.proofs.generic_chains.lay_chains.Given as goal

abbrev pub invariant-loop-index : goal.invariant-loop-index
invariant-loop-index l =
    ChainsSoFar (map (chain (with_classes l.classes) l.generic) (tuples l.firsts)) (map (chain (with_classes l.classes) l.generic) (drop l.index (tuples l.firsts)))
    l.start l.laid.cells l.laid.words
