-- The slots so far are laid.
use Rattle.std.proofs.Common.{◌≡◌, length, take}
use Rattle.std.specs.List.{sum_by}
use Rattle.lang_meaning.specs.Recipes.{in_turn}
use Rattle.mid_start.specs.Recipes.{slot_recipe}
use Rattle.mid_start.specs.Making.{IsSlot, EachStandsFor, Makes, IsWithin}
use Rattle.mid_start.specs.Rows.{most_slot_words}
use Rattle.mid_start.proofs.slots.lay_slots_of.Given as goal

abbrev pub invariant-loop-at : goal.invariant-loop-at
invariant-loop-at l = record {
  within : IsWithin l.fn.words l.words (sum_by most_slot_words (take l.at l.rows));
  many : length l.laid ≡ l.at;
  made : Makes l.names (EachStandsFor IsSlot) (in_turn (slot_recipe l.names) (take l.at l.rows)) l.fn.words l.words l.laid;
}
