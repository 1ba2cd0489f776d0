-- Where the words of the variables of a program are.
use Rattle.std.specs.Prelude.{◌≡◌, ℕ, List}
use Rattle.flat_language.specs.declared.program.FlatProgram.{FlatProgram}
use Rattle.back_words.specs.Variables.{global_addresses, dynamic_addresses, variable_count}
use Rattle.back_lowered.specs.declared.variables.Variables.{Variables}

pub record HasVariables (names : List (List ℕ)) (program : FlatProgram) (v : Variables) : Type 0 where
  pub globals : v.globals ≡ global_addresses names program
  pub dynamics : v.dynamics ≡ dynamic_addresses names program
  pub count : v.count ≡ variable_count names program
