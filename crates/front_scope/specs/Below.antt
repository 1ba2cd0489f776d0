-- How many classes stand below a class.
use Rattle.std.specs.Prelude.{◌≡◌, ◌≤◌, ℕ, ◌+◌, ◌*◌, ◌==◌, Bool, true, false, not, List, [], ◌∷◌, Some, slice_get, slice_index_or, if◌then◌else◌}
use Rattle.std.specs.List.{list_any, sum_by}
use Rattle.lang_meaning.specs.declared.program.ClassRow.{ClassRow}
use Rattle.lang_meaning.specs.declared.program.GenericRow.{GenericRow}
use Rattle.lang_meaning.specs.declared.program.MethodRow.{MethodRow}
use Rattle.lang_meaning.specs.Lookup.{is_in}

-- one where something holds
abbrev pub one_if : Bool → ℕ
one_if true = 1
one_if false = 0

-- how many classes have a class in their precedence lists: itself and those that stand below it
unfoldable pub below : List ClassRow → ℕ → ℕ
below rows class = sum_by (λ row. one_if (is_in class row.precedence)) rows

-- of `<object>` none is counted, below which they all stand
abbrev pub special_below : List ClassRow → ℕ → ℕ
special_below rows class = if class == 0 then 0 else below rows class

-- for the class of a method at an argument
abbrev pub special_at : List ClassRow → (argument : ℕ) → MethodRow → ℕ
special_at rows argument m = special_below rows (slice_index_or m.classes argument 0)

-- whether some method has there another than `<object>`
abbrev pub is_special_at : GenericRow → (argument : ℕ) → Bool
is_special_at g argument = list_any (λ m. not (slice_index_or m.classes argument 0 == 0)) g.methods

-- how many combinations there are of classes that stand below those of a method
abbrev pub places : List ClassRow → List ℕ → ℕ
places rows [] = 1
places rows (class ∷ classes) = below rows class * places rows classes

-- no fewer for each class that has a number
abbrev pub AreBelow : List ClassRow → (counts : List ℕ) → Type 0
AreBelow rows counts = (class count : ℕ) → slice_get counts class ≡ Some count → below rows class ≤ count

-- what each number is that is there once those of some classes were raised
abbrev pub AreRaised : (classes counts counts' : List ℕ) → Type 0
AreRaised classes counts counts' =
    (class count' : ℕ) → slice_get counts' class ≡ Some count'
    → (count : ℕ) × ((slice_get counts class ≡ Some count) × (count + one_if (is_in class classes) ≤ count'))

-- one was raised
abbrev pub IsRaised : (class : ℕ) (counts counts' : List ℕ) → Type 0
IsRaised class counts counts' =
    (other count' : ℕ) → slice_get counts' other ≡ Some count'
    → (count : ℕ) × ((slice_get counts other ≡ Some count) × (count + one_if (other == class) ≤ count'))
