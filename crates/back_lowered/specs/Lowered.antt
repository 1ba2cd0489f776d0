-- **A program that is lowered**: its words are laid, and its procedures are those of the definition, with these words.
use Rattle.std.specs.Prelude.{◌≡◌, ℕ, List}
use Rattle.flat_language.specs.declared.program.FlatProgram.{FlatProgram}
use Rattle.back_lowering.specs.Program.{lowered}
use Rattle.back_lowered.specs.Laid.{IsLaidProgram}
use Rattle.back_lowered.specs.declared.lowering.LoweredProgram.{LoweredProgram}

pub record IsLoweredProgram (names : List (List ℕ)) (program : FlatProgram) (l : LoweredProgram) : Type 0 where
  pub words : IsLaidProgram names program l.words
  pub procedures : l.procedures ≡ lowered names l.words.placement program
