use Rattle.std.proofs.Common.{◌≡◌, ◌≢◌, ℕ, ◌+◌, Bool, true, List, Option, Some, arith, subst}
use Rattle.std.specs.Prelude.{◌⊎◌, ◌==◌}
use Rattle.std.specs.List.{list_any}
use Rattle.back_liveness.specs.Barriers.{Crosses, barrier_at}
use Rattle.back_liveness.proofs.Around.{there_below}
use Rattle.back_allocation.specs.LineSteps.{landings_in}
use Rattle.back_allocation.proofs.Wanted.{outlasting_more}
use Rattle.back_allocation.proofs.barriers.close_line.Goals as goal

pub returns-in-Some-clause-only : goal.returns-in-Some-clause-only
returns-in-Some-clause-only c plain known =
    let landings : ℕ → List ℕ = landings_in c.args.landings.now in
    let line = c.args.line in
    let old = c.args.barriers.now in
    let middle = c.close_result.new.barriers in
    let new = c.close_landings.new.barriers in
    outlasting_more c.args.lines.now landings line c.in-Some.x.now old middle new c.in-Some.ensures (omega arith) known
    (subst (λ (o : Option ℕ). (t v : ℕ) → Crosses (barrier_at middle t) v
    → Crosses (barrier_at old t) v ⊎ ((t ≡ line + 1) × ((to : ℕ) × (o ≡ Some to) × (v ≢ to)))) c.result_of_call.ensures (c.close_result.ensures.only plain))
    (subst (λ (b : Bool). (t v : ℕ) → Crosses (barrier_at new t) v
    → Crosses (barrier_at middle t) v ⊎ ((b ≡ true) × (list_any (λ a. a == t) (landings line) ≡ true))) c.cuts.ensures c.close_landings.ensures.only)

pub returns-in-None-clause-call : goal.returns-in-None-clause-call
returns-in-None-clause-call c x to v there e ne = absurd (omega (arith, there_below c.args.lines.now c.args.line x there, c.in-None.ensures))

pub returns-in-None-clause-landed : goal.returns-in-None-clause-landed
returns-in-None-clause-landed c x t v there may h =
    absurd (omega (arith, there_below c.args.lines.now c.args.line x there, c.in-None.ensures))
