-- What holds of what is told.
use Rattle.std.specs.Prelude.{◌≡◌, ℕ, List}
use Rattle.lang_meaning.specs.declared.program.ClassRow.{ClassRow}
use Rattle.lang_meaning.specs.Values.{Value}
use Rattle.lang_meaning.specs.Objects.{Object}
use Rattle.lang_alike.specs.Alike.{StoresAlike}
use Rattle.lang_told.specs.Told.{Tells}

-- the law of one telling: two texts that are told of a condition are one
abbrev pub LawOfOneTelling : Type 0
LawOfOneTelling =
    (names : List (List ℕ)) (classes : List ClassRow) (objects : List Object) (condition : Value) (one other : List ℕ)
    → Tells names classes objects condition one → Tells names classes objects condition other → one ≡ other

-- the law of alike tellings: in alike stores the same is told, both ways
abbrev pub LawOfAlikeTellings : Type 0
LawOfAlikeTellings =
    (names : List (List ℕ)) (classes : List ClassRow) (one other : List Object) (condition : Value) (told : List ℕ) → StoresAlike one other
    → (Tells names classes one condition told → Tells names classes other condition told)
    × (Tells names classes other condition told → Tells names classes one condition told)
