-- The literals so far are laid.
use Rattle.std.proofs.Common.{take}
use Rattle.std.specs.List.{sum_by}
use Rattle.lang_meaning.specs.Recipes.{literal_recipe, in_turn}
use Rattle.mid_start.specs.Making.{IsWord, EachStandsFor, Makes, IsWithin}
use Rattle.mid_start.specs.Rows.{most_literal_words}
use Rattle.mid_start.proofs.literals.lay_literals.Given as goal

abbrev pub invariant-loop-at : goal.invariant-loop-at
invariant-loop-at l = record {
  within : IsWithin l.fn.words l.words (sum_by most_literal_words (take l.at l.rows));
  made : Makes l.names (EachStandsFor IsWord) (in_turn (literal_recipe l.names) (take l.at l.rows)) l.fn.words l.words l.laid;
}
