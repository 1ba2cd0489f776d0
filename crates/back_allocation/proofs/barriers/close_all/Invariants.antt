use Rattle.std.proofs.Common.{◌≡◌, true, ℕ, ◌<◌}
use Rattle.std.specs.Prelude.{◌==◌, ◌⊎◌, slice_index}
use Rattle.std.specs.List.{list_any}
use Rattle.back_allocation.specs.Slots.{ArePlain}
use Rattle.back_liveness.specs.Barriers.{Crosses, barrier_at}
use Rattle.back_allocation.proofs.barriers.close_all.Given as goal

abbrev pub invariant-loop-landing : goal.invariant-loop-landing
invariant-loop-landing l = record {
  kept : (x v : ℕ) → Crosses (barrier_at l.initial.barriers x) v → Crosses (barrier_at l.barriers x) v;
  plain : ArePlain l.initial.barriers → ArePlain l.barriers;
  only :
      (x v : ℕ) → Crosses (barrier_at l.barriers x) v
      → Crosses (barrier_at l.initial.barriers x) v ⊎ (list_any (λ a. a == x) l.landings ≡ true);
  landed : (j v : ℕ) → j < l.landing-index → Crosses (barrier_at l.barriers (slice_index l.landings j)) v;
}
