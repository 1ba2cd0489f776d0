use Rattle.std.proofs.Common.{◌≡◌, true, List, ℕ, subst, sym, ◌∙◌}
use Rattle.std.specs.Prelude.{◌==◌}
use Rattle.std.specs.List.{list_any}
use Rattle.back_liveness.specs.Settled.{by_read, by_next, by_aside}
use Rattle.back_liveness.proofs.lives.is_alive.Goals as goal

pub returns-then-contains-clause-only : goal.returns-then-contains-clause-only
returns-then-contains-clause-only c h =
    by_read c.in-Some.step.now c.in-Some.ensures
    (subst (λ (rs : List ℕ). list_any (λ r. r == c.args.register) rs ≡ true) c.as_slice.ensures (sym c.contains.ensures.value ∙ c.if-contains.true))

pub returns-then-not-writes-clause-only : goal.returns-then-not-writes-clause-only
returns-then-not-writes-clause-only c h =
    by_next c.in-Some.step.now c.if-line-high.true c.in-Some.ensures c.if-step.true (sym c.writes.ensures ∙ c.if-not-writes.true) c.if-marks-line.true

pub returns-clause-only : goal.returns-clause-only
returns-clause-only c h =
    let f = c.any_marked.ensures.only h in
    by_aside f.0 c.in-Some.step.now f.2 f.3 c.in-Some.ensures (subst (λ (ts : List ℕ). list_any (λ a. a == f.0) ts ≡ true) c.as_slice-2.ensures f.1) f.4
