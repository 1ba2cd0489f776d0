-- Classes that have at an argument the group of an earlier class.
use Rattle.std.specs.Prelude.{◌≡◌, ℕ, ◌<◌, ◌≤◌, Bool, true, List, Some, length, drop, filter, slice_get, slice_index_or}
use Rattle.lang_meaning.specs.declared.program.ClassRow.{ClassRow}
use Rattle.lang_meaning.specs.declared.program.GenericRow.{GenericRow}
use Rattle.lang_meaning.specs.Lookup.{is_in}
use Rattle.lang_meaning.specs.Cells.{argument_classes, group_of}
use Rattle.lang_dispatch.specs.OfClasses.{with_classes}
use Rattle.front_cells.specs.Flags.{AreFlags}

-- the place of the next one whose flag is set, from a place on, or the end of the list
pub record IsNextSet (flags : List Bool) (list : List ℕ) (from at : ℕ) : Type 0 where
  pub within : at ≤ length list
  pub skipped : (column : List ℕ) → AreFlags column flags → filter (λ d. is_in d column) (drop from list) ≡ filter (λ d. is_in d column) (drop at list)
  pub set : at < length list → slice_get flags (slice_index_or list at 0) ≡ Some true

-- two lists have the same ones
abbrev pub HaveSameCommon : (flags : List Bool) (list other : List ℕ) → Type 0
HaveSameCommon flags list other =
    (column : List ℕ) → AreFlags column flags → filter (λ d. is_in d column) list ≡ filter (λ d. is_in d column) other

-- the class has the group of an earlier one, where the methods' classes are these
abbrev pub IsCopy : List ClassRow → (column : List ℕ) → (class : ℕ) → Type 0
IsCopy rows column class =
    (earlier : ℕ)
    × ((earlier < class) × (group_of (with_classes rows) column class ≡ group_of (with_classes rows) column earlier))

-- at each required argument
abbrev pub AddsNothing : List ClassRow → GenericRow → (class : ℕ) → Type 0
AddsNothing rows g class = (argument : ℕ) → argument < g.required → IsCopy rows (argument_classes g argument) class
