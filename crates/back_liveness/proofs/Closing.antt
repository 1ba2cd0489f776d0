-- In a closed interval that has all reads of a register it is alive along paths forwards, and nowhere else.
use Rattle.std.proofs.Common.{◌≡◌, ℕ, zero, suc, ◌+◌, ◌-◌, ◌<◌, ◌≤◌, Bool, true, false, ◌&&◌, List, [], ◌∷◌, length, get_or, Some, sym, ap, subst, ◌∙◌, arith, inl, inr}
use Rattle.std.specs.Prelude.{slice_get, slice_index, not, nat_lt}
use borrow.Author.Tests.{ltb-true}
use Rattle.mid_lines.proofs.Conjunctions.{front_true, back_true}
use Rattle.back_liveness.specs.declared.step.Interval.{Interval}
use Rattle.back_liveness.specs.declared.step.Step.{Step}
use Rattle.back_liveness.specs.Liveness.{is_read, goes_aside}
use Rattle.back_liveness.specs.Ahead.{is_written, alive_before, alive_from, alive_ahead}
use Rattle.back_liveness.specs.Heads.{AreHeads, AreFloors, AreRoofs}
use Rattle.back_liveness.specs.Closed.{IsClosed}
use Rattle.back_liveness.proofs.Lists.{any_where, same_or_other}
use Rattle.back_liveness.proofs.Forwards.{either, not_true}
use Rattle.back_liveness.proofs.Around.{there_below}

module _ (steps : List Step) (earliest latest floors roofs : List ℕ) (v : ℕ) (i : Interval) (heads : AreHeads steps earliest latest)
    (low : AreFloors earliest floors) (high : AreRoofs latest roofs) (c : IsClosed steps floors roofs v i)
    (points : (k : ℕ) (x : Step) → slice_get steps k ≡ Some x → is_read x v ≡ true → (i.from ≤ k) × (k ≤ i.to)) where
  IsHere : ℕ → Type 0
  IsHere k = (i.from ≤ k) × (k ≤ i.to)

  here_behind : (at : ℕ) (x : Step) → slice_get steps at ≡ Some x → is_written x.written v ≡ false → IsHere (at + 1) → IsHere at
  unfolding IsHere
  here_behind at x there w q =
      elim (same_or_other (at + 1) i.from) [
        | inl e ↦ absurd (cc (w, c.written at x there e))
        | inr ne ↦ (omega (arith, q.0, ne), omega (arith, q.1))
      ]

  here_aside : (at t : ℕ) (x : Step) → slice_get steps at ≡ Some x → goes_aside x t ≡ true → at < t → IsHere t → IsHere at
  unfolding IsHere
  here_aside at t x there a below q =
      let far : t ≤ length steps = omega (arith, q.1, c.ends) in
      let b = heads.sources at t x (there_below steps at x there) there a far in
      let f = low.below i.from t q.0 (omega (arith, far, heads.earliest_count)) in
      (omega (arith, c.floor, f, b.0), omega (arith, q.1, below))

  here_now :
      (at : ℕ) (x : Step) (later : List Bool) → ((j : ℕ) → get_or later j false ≡ true → IsHere (at + 1 + j)) → slice_get steps at ≡ Some x
      → alive_before v at x later ≡ true → IsHere at
  unfolding IsHere
  here_now at x later more there h =
      elim (either (is_read x v) _ h) [
        | inl r ↦ points at x there r
        | inr g ↦
            elim (either (x.falls && (not (is_written x.written v) && get_or later 0 false)) _ g) [
              | inl f ↦
                  (let g = back_true x.falls _ f in
                  let w = not_true (is_written x.written v) (front_true (not (is_written x.written v)) _ g) in
                  let e : at + 1 + 0 ≡ at + 1 = omega arith in
                  here_behind at x there w (subst IsHere e (more 0 (back_true (not (is_written x.written v)) _ g))))
              | inr a ↦
                  (let w = any_where (λ t. nat_lt at t && get_or later (t - (at + 1)) false) x.aside a in
                  let below = ltb-true at w.0 (front_true (nat_lt at w.0) _ w.2) in
                  let e : at + 1 + (w.0 - (at + 1)) ≡ w.0 = omega (arith, below) in
                  here_aside at w.0 x there w.1 below (subst IsHere e (more (w.0 - (at + 1)) (back_true (nat_lt at w.0) _ w.2))))
            ]
      ]

  here_from :
      (at : ℕ) (last : List Step) → ((j : ℕ) → slice_get last j ≡ slice_get steps (at + j)) → (j : ℕ)
      → get_or (alive_from v at last) j false ≡ true → IsHere (at + j)
  here_from at [] same j h = absurd (cc h)
  here_from at (x ∷ last) same (suc j) h =
      let e : at + 1 + j ≡ at + suc j = omega arith in
      subst IsHere e (here_from (at + 1) last (λ k. let f : at + suc k ≡ at + 1 + k = omega arith in same (suc k) ∙ ap (slice_get steps) f) j h)
  here_from at (x ∷ last) same zero h =
      let e : at ≡ at + 0 = omega arith in
      subst IsHere e
      (here_now at x (alive_from v (at + 1) last)
      (here_from (at + 1) last (λ k. let f : at + suc k ≡ at + 1 + k = omega arith in same (suc k) ∙ ap (slice_get steps) f))
      (ap (slice_get steps) e ∙ sym (same 0)) h)

  pub closed_has : (k : ℕ) → alive_ahead steps v k ≡ true → (i.from ≤ k) × (slice_index latest k ≤ i.to)
  unfolding alive_ahead IsHere
  closed_has k h =
      let e : 0 + k ≡ k = omega arith in
      let same : (j : ℕ) → slice_get steps j ≡ slice_get steps (0 + j) = λ j. let f : j ≡ 0 + j = omega arith in ap (slice_get steps) f in
      let q : IsHere k = subst IsHere e (here_from 0 steps same k h) in
      let r = high.above i.to k q.1 (omega (arith, c.ends, heads.latest_count)) in
      (q.0, omega (arith, r, c.roof))
