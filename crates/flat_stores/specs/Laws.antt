-- What a program leaves in its store when it is made flat: the objects that it left before, but for functions.
use Rattle.std.specs.Prelude.{◌≡◌, ℕ, List, true}
use Rattle.lang_meaning.specs.declared.program.ProgramRows.{ProgramRows}
use Rattle.lang_meaning.specs.Facts.{is_whole}
use Rattle.lang_meaning.specs.Meaning.{Meant, meaning}
use Rattle.lang_meaning.specs.State.{Limit}
use Rattle.flat_language.specs.FlatMeaning.{flat_meaning}
use Rattle.flat_language.specs.Flatten.{flat_program}
use Rattle.lang_alike.specs.Alike.{StoresAlike}

-- two runs, of which the stores are alike
abbrev pub LeaveAlike : Meant → Meant → Type 0
LeaveAlike one other = StoresAlike one.store other.store

-- the law of stores: for every input, number of levels and words
abbrev pub LawOfStores : Type 0
LawOfStores =
    (names : List (List ℕ)) (program : ProgramRows) → is_whole program ≡ true → (input : List ℕ) (k : ℕ) (limit : Limit)
    → LeaveAlike (meaning names program input k limit) (flat_meaning names (flat_program program) input k limit)
