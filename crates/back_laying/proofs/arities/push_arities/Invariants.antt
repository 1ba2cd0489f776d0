-- The arities so far.
use Rattle.std.proofs.Common.{◌≡◌, ◌++◌, take, map}
use Rattle.back_words.specs.Words.{arity_of}
use Rattle.back_laying.proofs.arities.push_arities.Given as goal

abbrev pub invariant-loop-at : goal.invariant-loop-at
invariant-loop-at l = l.words ≡ l.fn.words ++ map arity_of (take l.at l.procedures)
