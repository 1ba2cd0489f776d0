-- What a step keeps of a datum.
use Rattle.std.specs.Prelude.{ℕ, List, length}
use Rattle.base.specs.Data.{Item}
use Rattle.base.specs.WellFormedData.{WellFormed}
use Rattle.lang_derived.specs.Derived.{Derives}

-- what a datum in form, with all its names in the table, becomes is in form and has all its names there
abbrev pub StepsAreWellFormed : Type 0
StepsAreWellFormed = (names : List (List ℕ)) (d : Item) (s : ℕ) (d2 : Item) (s2 : ℕ) → WellFormed (length names) d → Derives names d s d2 s2 → WellFormed (length names) d2
