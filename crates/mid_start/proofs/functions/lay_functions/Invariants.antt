-- The functions so far are laid.
use Rattle.std.proofs.Common.{ℕ, ◌*◌, List, take}
use Rattle.lang_meaning.specs.Recipes.{function_recipe, in_turn}
use Rattle.mid_start.specs.Making.{IsWord, EachStandsFor, Makes, IsWithin}
use Rattle.mid_start.proofs.functions.lay_functions.Given as goal

abbrev pub invariant-loop-at : goal.invariant-loop-at
invariant-loop-at l = record {
  within : IsWithin l.fn.words l.words (2 * l.at);
  made : (names : List (List ℕ)) → Makes names (EachStandsFor IsWord) (in_turn function_recipe (take l.at l.rows)) l.fn.words l.words l.laid;
}
