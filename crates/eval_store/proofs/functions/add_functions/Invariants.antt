-- The functions so far are made.
use Rattle.std.proofs.Common.{drop}
use Rattle.eval_store.specs.Words.{value_of_word}
use Rattle.eval_store.specs.Recipes.{IsMaking}
use Rattle.lang_meaning.specs.Recipes.{function_recipe}
use Rattle.eval_store.proofs.functions.add_functions.Given as goal

abbrev pub invariant-loop-at : goal.invariant-loop-at
invariant-loop-at l = IsMaking value_of_word (λ names. function_recipe) l.fn.store l.store l.rows (drop l.at l.rows) l.words
