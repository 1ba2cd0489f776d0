-- That the machine does what a flat program means.
use Rattle.std.specs.Prelude.{◌≡◌, ℕ, List}
use Rattle.lang_meaning.specs.State.{Limit}
use Rattle.lang_meaning.specs.Meaning.{Meant}
use Rattle.flat_language.specs.declared.program.FlatProgram.{FlatProgram}
use Rattle.flat_language.specs.FlatMeaning.{flat_meaning}
use Rattle.eval_machine.specs.Configuration.{Setting, Configuration}
use Rattle.eval_machine.specs.Run.{steps, IsEnd, start, done}

-- the law of steps: a machine that has ended after some number of steps is the same after any other after which it has ended
abbrev pub LawOfSteps : Type 0
LawOfSteps = (s : Setting) (m : Configuration) (n j : ℕ) → IsEnd s (steps s n m) → IsEnd s (steps s j m) → steps s j m ≡ steps s n m

-- a run of the machine that ends
pub record Ends (s : Setting) (m : Configuration) : Type 0 where
  pub count : ℕ
  pub is_end : IsEnd s (steps s count m)

-- whenever a machine that goes on from that configuration has ended, it has done that
abbrev pub Leads : Setting → Configuration → Meant → Type 0
Leads s m r = (n : ℕ) → IsEnd s (steps s n m) → done (steps s n m) ≡ r

abbrev pub setting : List (List ℕ) → FlatProgram → Limit → Setting
setting names program limit = record { names = names; program = program; limit = limit }

-- the law of the machine: for every flat program, input, number of levels and words it ends, and does what the program means
pub record IsMeant (names : List (List ℕ)) (program : FlatProgram) (input : List ℕ) (k : ℕ) (limit : Limit) : Type 0 where
  pub ends : Ends (setting names program limit) (start (setting names program limit) input k)
  pub leads : Leads (setting names program limit) (start (setting names program limit) input k) (flat_meaning names program input k limit)

abbrev pub LawOfMachine : Type 0
LawOfMachine = (names : List (List ℕ)) (program : FlatProgram) (input : List ℕ) (k : ℕ) (limit : Limit) → IsMeant names program input k limit
