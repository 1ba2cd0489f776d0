-- The cells of dispatch tables as they are kept, and what comes of them when tables have grown.
use Rattle.std.specs.Prelude.{◌≡◌, ℕ, ◌<◌, ◌≤◌, min, List, Some, length, take, filter, slice_get}
use Rattle.std.specs.List.{range_with_len, sum_by}
use Rattle.lang_meaning.specs.declared.program.ClassRow.{ClassRow}
use Rattle.lang_meaning.specs.declared.program.GenericRow.{GenericRow}
use Rattle.lang_meaning.specs.Cells.{is_specialised, generic_cells}
use Rattle.lang_dispatch.specs.OfClasses.{with_classes}
use Rattle.front_cells.specs.declared.generic_count.GenericCount.{GenericCount}
use Rattle.front_cells.specs.declared.count.CellCount.{CellCount}
use Rattle.front_cells.specs.declared.count.Estimates.{Estimates}
use Rattle.front_cells.specs.declared.count.Recount.{Recount}
use Rattle.front_cells.specs.declared.count.Recount.TheVariants.{Same, New, TooMany}

abbrev pub most_cells : ℕ
most_cells = 262144

-- the cells of all generic functions
abbrev pub all_cells : List ClassRow → List GenericRow → ℕ
all_cells rows gs = sum_by (generic_cells (with_classes rows)) gs

-- the arguments that are specialised
abbrev pub specialised : GenericRow → ℕ
specialised g = length (filter (is_specialised g) (range_with_len 0 g.required))

-- no fewer than the specialised arguments and than the cells, which count up to one past the limit
pub record IsCountOf (rows : List ClassRow) (g : GenericRow) (count : GenericCount) : Type 0 where
  pub methods : count.methods ≡ length g.methods
  pub specialised : specialised g ≤ count.specialised
  pub most : min (generic_cells (with_classes rows) g) 262145 ≤ count.most

-- the count of classes and generic functions, whose cells are few
pub record IsCellCount (rows : List ClassRow) (gs : List GenericRow) (count : CellCount) : Type 0 where
  pub classes : count.classes ≡ length rows
  pub paired : length count.generics ≡ length gs
  pub each : (i : ℕ) (k : GenericCount) (g : GenericRow) → slice_get count.generics i ≡ Some k → slice_get gs i ≡ Some g → IsCountOf rows g k
  pub few : all_cells rows gs ≤ most_cells

-- a generic function is as it was, with methods behind those that it had
pub record HasMoreMethods (g h : GenericRow) : Type 0 where
  pub name : h.name ≡ g.name
  pub required : h.required ≡ g.required
  pub rest : h.rest ≡ g.rest
  pub methods : take (length g.methods) h.methods ≡ g.methods

-- it was the count of tables that stand in front of these
pub record WasCellCount (rows : List ClassRow) (gs : List GenericRow) (count : CellCount) : Type 0 where
  pub rows_then : List ClassRow
  pub generics_then : List GenericRow
  pub counted : IsCellCount rows_then generics_then count
  pub classes : take (length rows_then) rows ≡ rows_then
  pub generics : (i : ℕ) (g h : GenericRow) → slice_get generics_then i ≡ Some g → slice_get gs i ≡ Some h → HasMoreMethods g h

-- as many classes, generic functions and methods as were counted
abbrev pub HasMethodsOf : (at : ℕ) → List GenericRow → List GenericCount → Type 0
HasMethodsOf at gs counts = (k : GenericCount) (g : GenericRow) → slice_get counts at ≡ Some k → slice_get gs at ≡ Some g → k.methods ≡ length g.methods

pub record IsCurrent (rows : List ClassRow) (gs : List GenericRow) (count : CellCount) : Type 0 where
  pub classes : count.classes ≡ length rows
  pub paired : length count.generics ≡ length gs
  pub methods : (at : ℕ) → HasMethodsOf at gs count.generics

-- counts of the generic functions, and no fewer than all cells up to one past the limit
pub record AreEstimates (rows : List ClassRow) (gs : List GenericRow) (found : Estimates) : Type 0 where
  pub paired : length found.generics ≡ length gs
  pub each : (i : ℕ) (k : GenericCount) (g : GenericRow) → slice_get found.generics i ≡ Some k → slice_get gs i ≡ Some g → IsCountOf rows g k
  pub total : min (all_cells rows gs) 262145 ≤ found.total

-- the count is the same still, or there is a new one, or the cells are too many
abbrev pub IsRecount : List ClassRow → List GenericRow → CellCount → Recount → Type 0
IsRecount rows gs count Same = IsCellCount rows gs count
IsRecount rows gs count (New new) = IsCellCount rows gs new
IsRecount rows gs count TooMany = most_cells < all_cells rows gs
