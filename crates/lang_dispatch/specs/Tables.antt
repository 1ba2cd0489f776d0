-- Dispatch tables: groups of classes at each argument, and one cell for each tuple of groups.
use Rattle.std.specs.Prelude.{◌≡◌, ℕ, ◌==◌, ◌<◌, ◌≤◌, List, map, length, Some, slice_get, slice_index_or, if◌then◌else◌}
use Rattle.std.specs.List.{range_with_len}
use Rattle.lang_meaning.specs.declared.program.ProgramRows.{ProgramRows}
use Rattle.lang_meaning.specs.declared.program.GenericRow.{GenericRow}
use Rattle.lang_meaning.specs.Classes.{chain}
use Rattle.lang_meaning.specs.Cells.{argument_classes, group_of, groups, tuples}
use Rattle.lang_dispatch.specs.GroupNumbers.{NumbersGroups}
use Rattle.lang_dispatch.specs.declared.table.ArgumentMap.{ArgumentMap}
use Rattle.lang_dispatch.specs.declared.table.ArgumentMap.TheVariants.{Whole, Mapped}
use Rattle.lang_dispatch.specs.declared.table.Table.{Table}
use Rattle.lang_dispatch.specs.declared.dispatch_tables.Tables.{Tables}
use Rattle.lang_dispatch.specs.Alike.{AreAlike, columns}
use Rattle.lang_dispatch.specs.Chains.{maybe_seen}

-- how many groups an argument has, and the number of the group of a class
abbrev pub count_in : ArgumentMap → ℕ
count_in Whole = 1
count_in (Mapped count numbers) = count

abbrev pub number_in : ArgumentMap → ℕ → ℕ
number_in Whole c = 0
number_in (Mapped count numbers) c = slice_index_or numbers c 0

-- the numbers of the groups are kept, unless there is one group alone
abbrev pub map_of : ℕ → List ℕ → ArgumentMap
map_of count numbers = if count == 1 then Whole else Mapped count numbers

-- the map of an argument: each class has the number of its group
pub record IsMapOf (program : ProgramRows) (g : GenericRow) (argument : ℕ) (a : ArgumentMap) : Type 0 where
  pub numbers : List ℕ
  pub count : length numbers ≡ length program.classes
  pub grouped : NumbersGroups (group_of program (argument_classes g argument)) (groups program g argument) numbers
  pub kept : a ≡ map_of (length (groups program g argument)) numbers

-- the maps of all required arguments
pub record AreMapsOf (program : ProgramRows) (g : GenericRow) (arguments : List ArgumentMap) : Type 0 where
  pub arity : length arguments ≡ g.required
  pub each : (i : ℕ) (a : ArgumentMap) → slice_get arguments i ≡ Some a → IsMapOf program g i a

-- the tuples of groups from an argument on, each group by its first class; and those of all arguments
abbrev pub tuples_from : ProgramRows → GenericRow → ℕ → ℕ → List (List ℕ)
tuples_from program g at n = tuples (map (groups program g) (range_with_len at n))

abbrev pub tuples_of : ProgramRows → GenericRow → List (List ℕ)
tuples_of program g = tuples_from program g 0 g.required

-- the number of the tuple whose groups are those of the classes
pub record IsPlaceOf (program : ProgramRows) (g : GenericRow) (cs : List ℕ) (index : ℕ) : Type 0 where
  pub tuple : List ℕ
  pub at : slice_get (tuples_of program g) index ≡ Some tuple
  pub alike : AreAlike program (columns g) tuple cs

-- the table of a generic function: the cell of each tuple is its chain
pub record IsTableOf (program : ProgramRows) (g : GenericRow) (t : Table) : Type 0 where
  pub maps : AreMapsOf program g t.arguments
  pub cells : map maybe_seen t.cells ≡ map (chain program g) (tuples_of program g)
  pub bounded : length (tuples_of program g) ≤ 262144

-- the tables of generic functions, one for each
pub record AreTablesOf (program : ProgramRows) (generics : List GenericRow) (ts : Tables) : Type 0 where
  pub count : length ts.tables ≡ length generics
  pub each : (i : ℕ) (g : GenericRow) (t : Table) → slice_get generics i ≡ Some g → slice_get ts.tables i ≡ Some t → IsTableOf program g t

-- the classes of a call: as many as required arguments, and each of them a class
pub record AreCalled (program : ProgramRows) (g : GenericRow) (cs : List ℕ) : Type 0 where
  pub arity : length cs ≡ g.required
  pub each : (i c : ℕ) → slice_get cs i ≡ Some c → c < length program.classes
