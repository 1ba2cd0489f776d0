-- The walk of a transfer: a loop of the routine, with a turn for each record that it passes.
use Rattle.std.specs.Prelude.{◌≡◌, ℕ, ◌+◌, ◌*◌, ◌^◌, ◌<◌, ◌≤◌, List, [], ◌∷◌, length, Option, Some}
use Rattle.mid_code.specs.declared.program.MidProcedure.{MidProcedure}
use Rattle.mid_code.specs.Arena.{Arena, word_at}
use Rattle.mid_code.specs.Meaning.{Task, context_of, exec_step, turns}
use Rattle.mid_code.specs.MidCode.{MidStep}
use Rattle.mid_code.specs.State.{Registers, falls, ends, MidState, MidOutcome}
use Rattle.back_lowering.specs.ControlWords.{record_kind, record_outer, cleanup_kind}
use Rattle.back_lowering.specs.RoutineCodes.{turns_while}
use Rattle.back_lowering.specs.Steps.{constant, load, if_equal}
use Rattle.back_relation.specs.Worlds.{Standing, IsIn, Chain, first_stop, record_bytes}
use Rattle.back_relation.specs.StackWords.{kind_number}

-- the record is in register 3, the target in 0, and 5 has the kind of a cleanup
abbrev pub walk : MidStep
walk = turns_while (load 4 3 record_kind ∷ if_equal 3 0 (constant 4 cleanup_kind ∷ []) [] ∷ []) 4 5 (load 3 3 record_outer ∷ [])

-- what the walk reads of a record
pub record Passed (a : Arena) (r : Standing) : Type 0 where
  pub low : r.address + record_bytes < 2 ^ 32
  pub kind : word_at a (r.address + record_kind) ≡ Some (kind_number r.role)
  pub outer : word_at a (r.address + record_outer) ≡ Some r.outer

-- the registers of the routine, at a record
abbrev pub walk_registers : (target word : ℕ) → (r2 : Option ℕ) → (at : ℕ) → (r4 : Option ℕ) → Registers
walk_registers target word r2 at r4 = Some target ∷ Some word ∷ r2 ∷ Some at ∷ r4 ∷ Some cleanup_kind ∷ []

abbrev pub costing : MidState → ℕ → MidState
costing y n = record y { cost = n }

-- it came from one record to another, and what it cost is within 48 for each that it passed and for the last one
pub record Walked (procedures : List MidProcedure) (below : Task → MidState → MidOutcome) (n target word : ℕ) (r2 : Option ℕ) (y : MidState) (a : ℕ) (r4 : Option ℕ) (cost : ℕ) (before after : List Standing) (to : ℕ) : Type 0 where
  pub last : Option ℕ
  pub total : ℕ
  pub run :
      exec_step (context_of procedures below (turns procedures below n)) walk (walk_registers target word r2 a r4) (costing y cost)
      ≡ ends falls (walk_registers target word r2 to last) (costing y total)
  pub within : total + 48 * length after ≤ cost + 48 * length before + 48

-- with a turn for each record it goes to the first one where the transfer stops
abbrev pub LawOfWalks : Type 0
LawOfWalks =
    (procedures : List MidProcedure) (below : Task → MidState → MidOutcome) (target word : ℕ) (r2 : Option ℕ) (y : MidState) (rs : List Standing)
    (n above a : ℕ) (r4 : Option ℕ) (cost : ℕ) (to : Standing) (outer : List Standing)
    → Chain above a rs → ((r : Standing) → IsIn r rs → Passed y.arena r) → first_stop target rs ≡ to ∷ outer → length rs ≤ n
    → Walked procedures below n target word r2 y a r4 cost rs (to ∷ outer) to.address
