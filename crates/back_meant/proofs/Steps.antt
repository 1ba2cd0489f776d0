-- Steps of lines lead to stages that are known, where lines are not stuck in steps of so little weight.
use Rattle.std.proofs.Common.{◌≡◌, ℕ, suc, ◌+◌, ◌≤◌, List, refl, ap, ◌∙◌, arith, Option, Some, None}
use Rattle.std.specs.Prelude.{slice_get}
use Rattle.mid_code.specs.State.{MidState, stuck}
use Rattle.mid_lines.specs.declared.line.LineProcedure.{LineProcedure}
use Rattle.mid_lines.specs.declared.line.LineProgram.{LineProgram}
use Rattle.mid_lines.specs.Weights as weighs
use Rattle.mid_lines.specs.Weights.{weights}
use Rattle.mid_lines.specs.LineMeaning.{Caller, Stage, running, entering, ended, enter_at, next, after}
use Rattle.mid_lines.proofs.Coming.{after_sum, weights_sum}
use Rattle.back_runs.specs.MachineRuns.{IsKnown, StepsAreKnown}
use Rattle.back_runs.proofs.Doing.{step_weighs}

last_step : (program : LineProgram) (n : ℕ) (s : Stage) → after program (suc n) s ≡ next program (after program n s)
unfolding after
last_step program n s = let e : suc n ≡ n + 1 = omega arith in ap (λ k. after program k s) e ∙ after_sum program n 1 s

last_weight : (program : LineProgram) (n : ℕ) (s : Stage) → weights program (suc n) s ≡ weights program n s + weighs.weight program (after program n s)
unfolding weights
last_weight program n s =
    let e : suc n ≡ n + 1 = omega arith in
    let same = ap (λ k. weights program k s) e in
    omega (arith, same, weights_sum program n 1 s)

module _ (program : LineProgram) (s : Stage) (n : ℕ)
    (not_stuck : (steps : ℕ) (y : MidState) → after program steps s ≡ ended stuck y → weights program steps s ≤ n → ⊥) where
  -- a procedure that is entered is there
  is_there :
      (steps number : ℕ) (args : List ℕ) (callers : List Caller) (y : MidState) (o : Option LineProcedure) → slice_get program.procedures number ≡ o
      → after program steps s ≡ entering number args callers y → weights program steps s ≤ n → (p : LineProcedure) × (slice_get program.procedures number ≡ Some p)
  is_there steps number args callers y (Some p) e h light = (p, e)
  is_there steps number args callers y None e h light =
      let to : after program (suc steps) s ≡ ended stuck y = last_step program steps s ∙ ap (λ t. next program t) h ∙ ap (λ o. enter_at o number args callers y) e in
      let none : weighs.weight program (after program steps s) ≡ 0 = ap (λ t. weighs.weight program t) h in
      absurd (not_stuck (suc steps) y to (omega (arith, light, none, last_weight program steps s)))

  is_known :
      (steps : ℕ) (t : Stage) → after program (suc steps) s ≡ t → weights program (suc steps) s ≤ n → IsKnown program t
  is_known steps (running a line rs callers y) h light = tt
  is_known steps (entering number args callers y) h light = is_there (suc steps) number args callers y (slice_get program.procedures number) refl h light
  is_known steps (ended stuck y) h light = not_stuck (suc steps) y h light
  is_known steps (ended e y) h light = tt

  pub steps_are_known : StepsAreKnown program s n
  steps_are_known steps light here =
      is_known steps (after program (suc steps) s) refl (omega (arith, light, step_weighs program (after program steps s), last_weight program steps s))
