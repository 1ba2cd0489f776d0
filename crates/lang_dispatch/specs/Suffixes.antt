-- The cells of tuples, argument by argument: the methods whose classes so far fit go on to the next one.
use Rattle.std.specs.Prelude.{ℕ, ◌+◌, Bool, false, List, Option, Some, None, drop, filter, slice_get}
use Rattle.lang_meaning.specs.declared.program.ProgramRows.{ProgramRows}
use Rattle.lang_meaning.specs.declared.program.MethodRow.{MethodRow}
use Rattle.lang_meaning.specs.declared.program.Qualifier.TheVariants.{Primary}
use Rattle.lang_meaning.specs.Classes.{is_below, applies, of_kind, chain_of}
use Rattle.lang_meaning.specs.Cells.{chain_length}

-- whether a method has a class there, and the class of the argument is that one or below it
abbrev pub is_below_some : ProgramRows → ℕ → Option ℕ → Bool
is_below_some program c (Some m) = is_below program c m
is_below_some program c None = false

abbrev pub passes : ProgramRows → ℕ → ℕ → MethodRow → Bool
passes program argument c m = is_below_some program c (slice_get m.classes argument)

-- whether a method's classes from an argument on apply to those of the rest of a tuple
abbrev pub applies_from : ProgramRows → ℕ → List ℕ → MethodRow → Bool
applies_from program argument cs m = applies program cs (drop argument m.classes)

-- how many methods the chain of these has
abbrev pub chain_size : List MethodRow → ℕ
chain_size ms = chain_length (chain_of ms (of_kind Primary ms))

-- the cells of a tuple by its rest, where these methods fit all that is in front
abbrev pub rest_cells : ProgramRows → ℕ → List MethodRow → List ℕ → ℕ
rest_cells program argument ms cs = 1 + chain_size (filter (applies_from program argument cs) ms)
