-- A procedure that is entered with more turns does the same, where it came to an end with fewer.
use Rattle.std.proofs.Common.{◌≡◌, ℕ, zero, suc, ◌≤◌, List, [], arith}
use Rattle.mid_code.specs.declared.program.MidProcedure.{MidProcedure}
use Rattle.mid_code.specs.Law.{IsReached}
use Rattle.mid_code.specs.Meaning.{Task, levels, turns}
use Rattle.mid_code.specs.State.{MidState, MidOutcome}
use Rattle.mid_code.proofs.Growth.{TasksGrow, turns_grow, levels_grow}
use Rattle.mid_code.proofs.Levels.{same_extends, no_turn_extends, TasksExtend, task_extends}

module _ (procedures : List MidProcedure) (below : Task → MidState → MidOutcome) (grow : TasksGrow below) where
  below_extends : TasksExtend below below
  below_extends = record { at = λ task z. same_extends (below task z) }

  more_turns : (m n : ℕ) → m ≤ n → TasksExtend (turns procedures below m) (turns procedures below n)
  unfolding turns
  more_turns zero n h = record { at = λ task z. no_turn_extends [] z _ ((turns_grow procedures below grow n).at task z) }
  more_turns (suc m) zero h = absurd (omega arith)
  more_turns (suc m) (suc n) h = record {
    at = λ task z.
        task_extends procedures below (turns procedures below m) below (turns procedures below n) below_extends (more_turns m n (omega arith)) grow
        (turns_grow procedures below grow n) task z;
  }

-- in a run
pub same_with_more :
    (procedures : List MidProcedure) (turns_each k m n : ℕ) (task : Task) (z : MidState) → m ≤ n
    → IsReached (turns procedures (levels procedures turns_each k) m task z).end
    → turns procedures (levels procedures turns_each k) n task z ≡ turns procedures (levels procedures turns_each k) m task z
same_with_more procedures turns_each k m n task z h reached =
    ((more_turns procedures (levels procedures turns_each k) (levels_grow procedures turns_each k) m n h).at task z).same reached
