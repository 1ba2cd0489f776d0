-- The groups of classes at an argument, as what is found of them.
use Rattle.std.specs.Prelude.{◌≡◌, ◌≢◌, ℕ, ◌⊎◌, List, [], ◌∷◌, ◌++◌, length, slice_get, Some}
use Rattle.lang_meaning.specs.declared.program.ProgramRows.{ProgramRows}
use Rattle.lang_meaning.specs.declared.program.GenericRow.{GenericRow}
use Rattle.lang_dispatch.specs.declared.groups.ArgumentGroups.{ArgumentGroups}
use Rattle.lang_dispatch.specs.declared.groups.Grouping.{Grouping}
use Rattle.lang_meaning.specs.Cells.{argument_classes, is_specialised, group_of, groups}

-- each class has the number of a first one that is of its group
pub record NumbersGroups (group : ℕ → List ℕ) (firsts numbers : List ℕ) : Type 0 where
  pub numbered : (c k : ℕ) → slice_get numbers c ≡ Some k → (r : ℕ) × (slice_get firsts k ≡ Some r) × (group r ≡ group c)

-- the first class of each group, and for each class the number of its group
pub record AreGroups (program : ProgramRows) (g : GenericRow) (argument : ℕ) (found : ArgumentGroups) : Type 0 where
  pub firsts : found.firsts ≡ groups program g argument
  pub count : length found.numbers ≡ length program.classes
  pub numbers : NumbersGroups (group_of program (argument_classes g argument)) found.firsts found.numbers
  pub specialised : found.specialised ≡ is_specialised g argument

-- a class is taken: it has the number of its group, or a new number as the first of it
abbrev pub IsClassGrouped : Grouping → Grouping → ℕ → List ℕ → Type 0
IsClassGrouped old new class group =
    ((k : ℕ) × (slice_get old.kept k ≡ Some group) × (new ≡ record old { numbers = old.numbers ++ k ∷ [] }))
    ⊎ (((k : ℕ) → (g : List ℕ) → slice_get old.kept k ≡ Some g → g ≢ group)
    × (new ≡ record {
      firsts = old.firsts ++ class ∷ [];
      kept = old.kept ++ group ∷ [];
      numbers = old.numbers ++ length old.firsts ∷ [];
    }))
