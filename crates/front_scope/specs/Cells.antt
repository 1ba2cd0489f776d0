-- The cells of dispatch tables behind a form.
use Rattle.std.specs.Prelude.{◌≡◌, ◌<◌, ◌≤◌, ℕ, List, length, map, Option, Some, None}
use Rattle.std.specs.List.{range_with_len}
use Rattle.base.specs.declared.reason.Stop.{Stop}
use Rattle.base.specs.declared.reason.Stop.TheVariants.{Refused, NoMemory}
use Rattle.base.specs.declared.reason.Reason.TheVariants.{DispatchTooLarge}
use Rattle.base.specs.Data.{Item}
use Rattle.lang_meaning.specs.declared.program.ClassRow.{ClassRow}
use Rattle.lang_meaning.specs.declared.program.GenericRow.{GenericRow}
use Rattle.lang_meaning.specs.Cells.{groups, tuples}
use Rattle.lang_dispatch.specs.OfClasses.{with_classes}
use Rattle.front_profile.specs.declared.mark.Mark.{Mark}
use Rattle.front_profile.specs.declared.tables.Tables.{Tables}
use Rattle.front_profile.specs.Cuts.{method_counts}
use Rattle.front_profile.specs.Marks.{StandsFirst, AreThere}
use Rattle.front_cells.specs.declared.count.CellCount.{CellCount}
use Rattle.front_cells.specs.Counts.{IsCellCount}
use Rattle.front_scope.specs.Scopes.{cells_of, most_cells, at_form}

-- the cells are few where classes, generic functions and methods are as many as at the mark
pub record FewAt (mark : Mark) (t : Tables) : Type 0 where
  pub few : length t.classes.rows ≡ mark.classes → method_counts t.generics ≡ mark.methods → cells_of t ≤ most_cells

-- the combinations of groups of classes that a generic function tells apart
abbrev pub all_tuples : List ClassRow → GenericRow → List (List ℕ)
all_tuples classes g = tuples (map (groups (with_classes classes) g) (range_with_len 0 g.required))

-- it was the count of the classes and generic functions at some time, which stand in front of those of the tables
pub record IsCountBefore (t : Tables) (count : CellCount) : Type 0 where
  pub rows : List ClassRow
  pub generics : List GenericRow
  pub counted : IsCellCount rows generics count
  pub classes_in_front : StandsFirst rows t.classes.rows
  pub generics_in_front : AreThere generics t.generics

-- the cells are few, and the count that there was stays, or there is a new one
abbrev pub IsCountAfter : Tables → CellCount → Option CellCount → Type 0
IsCountAfter t old None = (cells_of t ≤ most_cells) × IsCountBefore t old
IsCountAfter t old (Some new) = IsCellCount t.classes.rows t.generics new

-- a form is refused where the cells are too many
abbrev pub StopsAtCells : Tables → Item → Stop → Type 0
StopsAtCells t d (Refused r) = (r ≡ at_form d DispatchTooLarge) × (most_cells < cells_of t)
StopsAtCells t d NoMemory = Unit {0}
