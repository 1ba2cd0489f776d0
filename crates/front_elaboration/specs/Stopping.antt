-- What is left where memory is wanting.
use Rattle.std.specs.Prelude.{◌≡◌, Bool, false, Option, Some, None}
use Rattle.base.specs.declared.reason.Stop.{Stop}
use Rattle.base.specs.declared.reason.Stop.TheVariants.{Refused, NoMemory}
use Rattle.lang_meaning.specs.declared.program.GenericRow.{GenericRow}
use Rattle.front_profile.specs.declared.tables.Tables.{Tables}
use Rattle.front_profile.specs.declared.elaboration.Elaboration.{Elaboration}
use Rattle.front_profile.specs.declared.elaboration.Elaboration.TheVariants.{OfMethods, OfClass}
use Rattle.front_profile.specs.Marks.{TablesGrow}

-- classes, generic functions and methods may have been added to the tables; any other form leaves them as they were
abbrev pub LeavesTables : Elaboration → Tables → Tables → Type 0
LeavesTables (OfMethods t hs p of_file l) s u = TablesGrow s u
LeavesTables (OfClass c p of_file l) s u = TablesGrow s u
LeavesTables m s u = u ≡ s

-- nothing was refused
abbrev pub IsWant : Stop → Type 0
IsWant (Refused r) = ⊥
IsWant NoMemory = Unit {0}

-- whether the generic function that is found takes a rest argument
abbrev pub rest_of : Option GenericRow → Bool
rest_of None = false
rest_of (Some g) = g.rest
