-- The conses from a word on are made.
use Rattle.std.proofs.Common.{◌≤◌, length, drop}
use Rattle.eval_store.specs.Words.{value_of_word, values_of}
use Rattle.eval_store.specs.Recipes.{IsMadeBy, linked}
use Rattle.eval_store.proofs.making.add_list.Given as goal

abbrev pub invariant-loop-at : goal.invariant-loop-at
invariant-loop-at l = record {
  inside : l.at ≤ length l.words;
  made : IsMadeBy value_of_word (λ names. linked (drop l.at (values_of names l.words)) (value_of_word names l.fn.end)) l.fn.store l.store l.list;
}

abbrev pub decreases-loop-at : goal.decreases-loop-at
decreases-loop-at l = l.at
