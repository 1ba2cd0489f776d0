-- The groups of classes at the arguments of a generic function, as they are found.
use Rattle.std.specs.Prelude.{◌≡◌, ℕ, ◌==◌, not, List, [], ◌∷◌, length, map, filter, if◌then◌else◌}
use Rattle.std.specs.List.{range_with_len}
use Rattle.base.specs.AllOf.{AllOf}
use Rattle.lang_meaning.specs.declared.program.ProgramRows.{ProgramRows}
use Rattle.lang_meaning.specs.declared.program.GenericRow.{GenericRow}
use Rattle.lang_meaning.specs.Cells.{argument_classes, group_of, groups}
use Rattle.lang_dispatch.specs.declared.groups.ArgumentGroups.{ArgumentGroups}
use Rattle.lang_dispatch.specs.GroupNumbers.{NumbersGroups}
use Rattle.back_laying.specs.declared.groups.GenericGroups.{GenericGroups}
use Rattle.back_laying.specs.declared.groups.SpecialisedArgument.{SpecialisedArgument}

-- an argument is kept where there is more than one group at it
abbrev pub kept_of : ℕ → ArgumentGroups → List SpecialisedArgument
kept_of argument found = if length found.firsts == 1 then [] else record { argument = argument; numbers = found.numbers } ∷ []

abbrev pub arguments_of : List SpecialisedArgument → List ℕ
arguments_of xs = map (λ (x : SpecialisedArgument). x.argument) xs

module _ (program : ProgramRows) (g : GenericRow) where
  -- each class has the number of its group
  pub record IsNumbered (x : SpecialisedArgument) : Type 0 where
    pub count : length x.numbers ≡ length program.classes
    pub numbered : NumbersGroups (group_of program (argument_classes g x.argument)) (groups program g x.argument) x.numbers

  -- the groups at so many arguments
  pub record AreGrouped (arguments : ℕ) (found : GenericGroups) : Type 0 where
    pub firsts : found.firsts ≡ map (groups program g) (range_with_len 0 arguments)
    pub specialised : arguments_of found.specialised ≡ filter (λ i. not (length (groups program g i) == 1)) (range_with_len 0 arguments)
    pub numbered : AllOf IsNumbered found.specialised
