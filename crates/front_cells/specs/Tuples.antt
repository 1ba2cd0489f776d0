-- Tuples of groups, counted by those of the arguments: no fewer than there are, and than those to which a method applies.
use Rattle.std.specs.Prelude.{◌≡◌, ◌≤◌, ℕ, zero, suc, ◌+◌, ◌*◌, ◌-◌, ◌==◌, not, List, [], ◌∷◌, Option, Some, None, Bool, length, map, drop, slice_get, slice_index_or}
use Rattle.std.specs.List.{range_with_len, list_any, sum_by}
use Rattle.lang_meaning.specs.Classes.{chain}
use Rattle.lang_meaning.specs.declared.program.ClassRow.{ClassRow}
use Rattle.lang_meaning.specs.declared.program.GenericRow.{GenericRow}
use Rattle.lang_meaning.specs.declared.program.MethodRow.{MethodRow}
use Rattle.lang_meaning.specs.Cells.{groups, tuples, chain_length}
use Rattle.lang_dispatch.specs.OfClasses.{with_classes}
use Rattle.front_cells.specs.Groups.{below}
use Rattle.front_cells.specs.declared.bounds.TupleCounts.{TupleCounts}

-- whether some method has at an argument another class than `<object>`
abbrev pub is_special_at : GenericRow → (argument : ℕ) → Bool
is_special_at g argument = list_any (λ m. not (slice_index_or m.classes argument 0 == 0)) g.methods

-- the tuples of groups from an argument on
abbrev pub tuples_from : List ClassRow → GenericRow → (argument count : ℕ) → List (List ℕ)
tuples_from rows g argument count = tuples (map (groups (with_classes rows) g) (range_with_len argument count))

-- how many tuples there are of groups below classes, one for each argument
abbrev pub places : List ClassRow → GenericRow → (argument count : ℕ) → List ℕ → ℕ
places rows g argument zero classes = 1
places rows g argument (suc count) [] = 1
places rows g argument (suc count) (class ∷ classes) =
    below rows class (groups (with_classes rows) g argument) * places rows g (argument + 1) count classes

-- those of the arguments in front were counted
pub record AreTupleCounts (rows : List ClassRow) (g : GenericRow) (argument : ℕ) (counts : TupleCounts) : Type 0 where
  pub tuples : length (tuples_from rows g 0 g.required) ≤ counts.tuples * length (tuples_from rows g argument (g.required - argument))
  pub paired : length counts.applied ≡ length g.methods
  pub applied : (i : ℕ) (m : MethodRow) (count : ℕ) → slice_get g.methods i ≡ Some m → slice_get counts.applied i ≡ Some count →
      places rows g 0 g.required m.classes ≤ count * places rows g argument (g.required - argument) (drop argument m.classes)

-- a number of a method with an argument more: times that of its class there, where it has one
abbrev pub IsScaledBy : Option ℕ → (below : List ℕ) (count more : ℕ) → Type 0
IsScaledBy None below count more = more ≡ count
IsScaledBy (Some class) below count more = (times : ℕ) × ((slice_get below class ≡ Some times) × (more ≡ count * times))

abbrev pub IsScaled : (classes : List ℕ) (argument : ℕ) (below : List ℕ) (count more : ℕ) → Type 0
IsScaled classes argument below count more = IsScaledBy (slice_get classes argument) below count more

-- the numbers of all methods with an argument more
pub record AreScaled (ms : List MethodRow) (argument : ℕ) (below counts mores : List ℕ) : Type 0 where
  pub paired : length mores ≡ length ms
  pub each : (i : ℕ) (m : MethodRow) (more : ℕ) → slice_get ms i ≡ Some m → slice_get mores i ≡ Some more →
      (count : ℕ) × ((slice_get counts i ≡ Some count) × IsScaled m.classes argument below count more)

-- so many numbers of 1
pub record AreOnes (count : ℕ) (ones : List ℕ) : Type 0 where
  pub paired : length ones ≡ count
  pub each : (i one : ℕ) → slice_get ones i ≡ Some one → one ≡ 1

-- the methods of the chains of all tuples
abbrev pub chained : List ClassRow → GenericRow → ℕ
chained rows g = sum_by (λ tuple. chain_length (chain (with_classes rows) g tuple)) (tuples_from rows g 0 g.required)
