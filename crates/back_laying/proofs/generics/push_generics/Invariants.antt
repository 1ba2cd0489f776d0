-- The generic functions so far, and those to come.
use Rattle.std.proofs.Common.{drop}
use Rattle.lang_dispatch.specs.OfClasses.{with_classes}
use Rattle.back_words.specs.Generics.{generic_words}
use Rattle.back_words.specs.Words.{symbol_among}
use Rattle.back_laying.proofs.Behind.{BlocksSoFar}
use Rattle.back_laying.proofs.generics.push_generics.Given as goal

abbrev pub invariant-loop-at : goal.invariant-loop-at
invariant-loop-at l =
    BlocksSoFar (generic_words (with_classes l.classes) (symbol_among l.symbols)) l.generics (drop l.at l.generics) l.start l.fn.words l.words l.laid
