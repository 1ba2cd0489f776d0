-- The slots of the classes so far are laid.
use Rattle.std.proofs.Common.{◌≡◌, length, Some, ℕ, List, take}
use Rattle.std.specs.Prelude.{slice_get}
use Rattle.lang_meaning.specs.declared.program.ClassRow.{ClassRow}
use Rattle.mid_start.specs.declared.slots.SlotWords.{SlotWords}
use Rattle.std.specs.List.{sum_by}
use Rattle.lang_meaning.specs.Recipes.{in_turn}
use Rattle.mid_start.specs.Recipes.{slots_recipe}
use Rattle.mid_start.specs.Making.{IsSlot, EachStandsFor, Makes, IsWithin}
use Rattle.mid_start.specs.Rows.{most_slots_words}
use Rattle.mid_start.proofs.slots.lay_slots.Given as goal

abbrev pub invariant-loop-at : goal.invariant-loop-at
invariant-loop-at l = record {
  within : IsWithin l.fn.words l.words (sum_by most_slots_words (take l.at l.classes));
  many : length l.laid ≡ l.at;
  each : (class : ℕ) (row : ClassRow) (ss : List SlotWords) → slice_get l.classes class ≡ Some row → slice_get l.laid class ≡ Some ss → length ss ≡ length row.slots;
  made : Makes l.names (EachStandsFor (EachStandsFor IsSlot)) (in_turn (slots_recipe l.names) (take l.at l.classes)) l.fn.words l.words l.laid;
}
