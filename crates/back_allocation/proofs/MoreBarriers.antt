-- The barriers of one line more.
use Rattle.std.proofs.Common.{inl, inr, ◌≡◌, ◌≢◌, ℕ, ◌+◌, true, List, Some, ap, subst, ◌∙◌, arith}
use Rattle.std.specs.Prelude.{◌==◌, slice_get}
use Rattle.std.specs.List.{list_any}
use Rattle.mid_lines.specs.declared.line.Line.{Line}
use Rattle.back_liveness.specs.declared.barrier.Barrier.{Barrier}
use Rattle.back_liveness.specs.Barriers.{Crosses, barrier_at}
use Rattle.back_allocation.specs.Barriers.{call_result, may_cut, AreBarriers}
use Rattle.back_allocation.proofs.Naming.{below_or_not}

pub barriers_more :
    (lines : List Line) (landings : ℕ → List ℕ) (line : ℕ) (old new : List Barrier) → AreBarriers lines landings line old
    → ((x v : ℕ) → Crosses (barrier_at old x) v → Crosses (barrier_at new x) v)
    → ((x : Line) (to v : ℕ) → slice_get lines line ≡ Some x → call_result x ≡ Some to → v ≢ to → Crosses (barrier_at new (line + 1)) v)
    → ((x : Line) (t v : ℕ) → slice_get lines line ≡ Some x → may_cut x ≡ true → list_any (λ a. a == t) (landings line) ≡ true → Crosses (barrier_at new t) v)
    → AreBarriers lines landings (line + 1) new
barriers_more lines landings line old new are kept call landed = record {
  calls = λ l to v x low there e ne.
      elim (below_or_not l line) [
        | inl below ↦ kept (l + 1) v (are.calls l to v x below there e ne)
        | inr beyond ↦
            (let here : line ≡ l = omega (arith, low, beyond) in
            subst (λ k. Crosses (barrier_at new (k + 1)) v) here (call x to v (ap (slice_get lines) here ∙ there) e ne))
      ];
  landed = λ l t v x low there may h.
      elim (below_or_not l line) [
        | inl below ↦ kept t v (are.landed l t v x below there may h)
        | inr beyond ↦
            (let here : line ≡ l = omega (arith, low, beyond) in
            landed x t v (ap (slice_get lines) here ∙ there) may (ap (λ k. list_any (λ a. a == t) (landings k)) here ∙ h))
      ];
}
