-- The classes so far are made.
use Rattle.std.proofs.Common.{◌-◌}
use Rattle.std.specs.List.{range_with_len}
use Rattle.eval_store.specs.Words.{value_of_word}
use Rattle.eval_store.specs.Recipes.{IsMaking}
use Rattle.lang_meaning.specs.Recipes.{class_recipe}
use Rattle.eval_store.proofs.classes.lay_classes.Given as goal

abbrev pub invariant-loop-class : goal.invariant-loop-class
invariant-loop-class l =
    IsMaking value_of_word (λ names. class_recipe) l.fn.store l.store (range_with_len l.from (l.to - l.from)) (range_with_len l.class (l.to - l.class)) l.words
