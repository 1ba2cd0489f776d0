-- Tuples of classes of the same groups.
use Rattle.std.specs.Prelude.{◌≡◌, ℕ, List, [], ◌∷◌, map}
use Rattle.std.specs.List.{range_with_len}
use Rattle.lang_meaning.specs.declared.program.ProgramRows.{ProgramRows}
use Rattle.lang_meaning.specs.declared.program.GenericRow.{GenericRow}
use Rattle.lang_meaning.specs.Cells.{argument_classes, group_of}

-- the classes of the arguments from one on
abbrev pub columns_from : GenericRow → ℕ → ℕ → List (List ℕ)
columns_from g at n = map (argument_classes g) (range_with_len at n)

-- the classes of all required arguments
abbrev pub columns : GenericRow → List (List ℕ)
columns g = columns_from g 0 g.required

-- two tuples of classes are of the same group at each argument
abbrev pub AreAlike : ProgramRows → List (List ℕ) → List ℕ → List ℕ → Type 0
AreAlike program columns [] [] = Unit
AreAlike program columns [] (d ∷ ds) = ⊥
AreAlike program columns (c ∷ cs) [] = ⊥
AreAlike program [] (c ∷ cs) (d ∷ ds) = ⊥
AreAlike program (column ∷ columns) (c ∷ cs) (d ∷ ds) =
    (group_of program column c ≡ group_of program column d) × AreAlike program columns cs ds
