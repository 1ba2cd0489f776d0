-- The literals so far are made.
use Rattle.std.proofs.Common.{drop}
use Rattle.eval_store.specs.Words.{value_of_word}
use Rattle.eval_store.specs.Recipes.{IsMaking}
use Rattle.lang_meaning.specs.Recipes.{literal_recipe}
use Rattle.eval_store.proofs.literals.lay_literals.Given as goal

abbrev pub invariant-loop-at : goal.invariant-loop-at
invariant-loop-at l = IsMaking value_of_word literal_recipe l.fn.store l.store l.rows (drop l.at l.rows) l.words
