-- What is found of the code of a procedure.
use Rattle.std.specs.Prelude.{◌≡◌, Option, Some, None}
use Rattle.flat_language.specs.declared.program.FlatProcedure.{FlatProcedure}
use Rattle.eval_state.specs.declared.lookups.Code.{Code}
use Rattle.eval_state.specs.Sizes.{procedure_words}

-- the code of a procedure, and the words of the stack that it takes; none where there is no such procedure
abbrev pub IsCode : Option Code → Option FlatProcedure → Type 0
IsCode None o = o ≡ None
IsCode (Some c) o = (o ≡ Some c.procedure.now) × (c.words ≡ procedure_words c.procedure.now)
