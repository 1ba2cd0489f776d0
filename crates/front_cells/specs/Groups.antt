-- Groups of classes at an argument, counted: no fewer than there are, and for each class no fewer than stand below it.
use Rattle.std.specs.Prelude.{◌≡◌, ◌≤◌, ℕ, ◌+◌, ◌==◌, Bool, true, false, List, [], Some, length, slice_get}
use Rattle.std.specs.List.{range_with_len, sum_by}
use Rattle.lang_meaning.specs.declared.program.ClassRow.{ClassRow}
use Rattle.lang_meaning.specs.Lookup.{is_in}
use Rattle.lang_meaning.specs.Classes.{precedence}
use Rattle.lang_meaning.specs.Cells.{group_of, one_of_each}
use Rattle.lang_dispatch.specs.OfClasses.{with_classes}
use Rattle.front_cells.specs.declared.groups.GroupCounts.{GroupCounts}

-- one where something holds
abbrev pub one_if : Bool → ℕ
one_if true = 1
one_if false = 0

-- one class for each group of the first classes, where the methods' classes are these
abbrev pub groups_to : List ClassRow → (column : List ℕ) (count : ℕ) → List ℕ
groups_to rows column count = one_of_each (group_of (with_classes rows) column) [] (range_with_len 0 count)

-- how many of some classes have a class in their precedence lists
unfoldable pub below : List ClassRow → (class : ℕ) (classes : List ℕ) → ℕ
below rows class classes = sum_by (λ c. one_if (is_in class (precedence (with_classes rows) c))) classes

-- no fewer than one class for each group, and for each class than those that have it in their lists
pub record AreCounted (rows : List ClassRow) (firsts : List ℕ) (counts : GroupCounts) : Type 0 where
  pub groups : length firsts ≤ counts.groups
  pub below : (class count : ℕ) → slice_get counts.below class ≡ Some count → below rows class firsts ≤ count

abbrev pub AreGroupCounts : List ClassRow → (column : List ℕ) → GroupCounts → Type 0
AreGroupCounts rows column counts = AreCounted rows (groups_to rows column (length rows)) counts

-- what each number is that is there once those of some classes were raised
abbrev pub AreRaised : (classes counts counts' : List ℕ) → Type 0
AreRaised classes counts counts' =
    (class count' : ℕ) → slice_get counts' class ≡ Some count'
    → (count : ℕ) × ((slice_get counts class ≡ Some count) × (count + one_if (is_in class classes) ≤ count'))

-- one was raised
abbrev pub IsRaised : (class : ℕ) (counts counts' : List ℕ) → Type 0
IsRaised class counts counts' =
    (other count' : ℕ) → slice_get counts' other ≡ Some count'
    → (count : ℕ) × ((slice_get counts other ≡ Some count) × (count + one_if (other == class) ≤ count'))

-- a group more, whose first class has that precedence list
pub record IsGroupMore (list : List ℕ) (counts counts' : GroupCounts) : Type 0 where
  pub groups : counts'.groups ≡ counts.groups + 1
  pub below : AreRaised list counts.below counts'.below
