-- The symbols of the names so far.
use Rattle.std.proofs.Common.{◌≡◌, ℕ, List, take}
use Rattle.eval_store.specs.Words.{values_of}
use Rattle.eval_store.specs.Parts.{symbols_of}
use Rattle.eval_store.proofs.slots.symbols.Given as goal

abbrev pub invariant-loop-at : goal.invariant-loop-at
invariant-loop-at l = (names : List (List ℕ)) → values_of names l.words ≡ symbols_of names (take l.at l.list)
