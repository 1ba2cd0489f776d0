use Rattle.std.proofs.Common.{◌≡◌, ◌∷◌, [], ◌++◌, List, ℕ, arith, subst}
use Rattle.back_allocation.specs.LineSteps.{landings_in, step_of, steps_from}
use Rattle.back_allocation.proofs.Stepping.{step_more}
use Rattle.back_allocation.proofs.steps.steps_of.Goals as goal

pub loop-at-preserved : goal.loop-at-preserved
loop-at-preserved c =
    step_more (landings_in c.args.landings.now) c.args.lines.now c.loop-at.at c.loop-at.steps c.push_step.new.steps
    (steps_from (landings_in c.args.landings.now) 0 c.args.lines.now) (omega arith)
    (λ x e. subst (λ (h : List ℕ). c.push_step.new.steps ≡ c.loop-at.steps ++ step_of h x ∷ []) c.landings_at.ensures (c.in_ok-push_step.ensures x e))
    c.loop-at.invariant
