-- What is alive along paths forwards: it goes along with lines, and marks tell all of it.
use Rattle.std.proofs.Common.{◌≡◌, ℕ, zero, suc, ◌+◌, ◌-◌, ◌<◌, ◌≤◌, Bool, true, false, ◌&&◌, ◌||◌, List, [], ◌∷◌, length, get_or, Some, refl, sym, ap, subst, ◌∙◌, arith, inl, inr}
use Rattle.std.specs.Prelude.{◌⊎◌, slice_get, not, nat_lt}
use borrow.Author.Tests.{ltb-true}
use Rattle.mid_lines.proofs.Conjunctions.{front_true, back_true}
use Rattle.back_liveness.specs.declared.lives.Life.{Life}
use Rattle.back_liveness.specs.declared.step.Step.{Step}
use Rattle.back_liveness.specs.Liveness.{is_read, goes_aside}
use Rattle.back_liveness.specs.Ahead.{is_written, alive_before, alive_from, alive_ahead}
use Rattle.back_liveness.specs.Heads.{AreHeads}
use Rattle.back_liveness.specs.Settled.{is_marked, Settled}
use Rattle.back_liveness.proofs.Lists.{any_where}

-- tests joined
pub either : (a b : Bool) → (a || b) ≡ true → (a ≡ true) ⊎ (b ≡ true)
either true b h = inl refl
either false b h = inr h

pub or_front : (a b : Bool) → a ≡ true → (a || b) ≡ true
or_front true b h = refl
or_front false b h = absurd (cc h)

pub not_true : (b : Bool) → not b ≡ true → b ≡ false
not_true true h = absurd (cc h)
not_true false h = refl

pub not_false : (b : Bool) → b ≡ false → not b ≡ true
not_false true h = absurd (cc h)
not_false false h = refl

module _ (steps : List Step) (earliest latest : List ℕ) (v : ℕ) (marks : List Bool) (high line : ℕ) (life : Life)
    (heads : AreHeads steps earliest latest) (s : Settled steps earliest latest v marks high life line) (all : line ≤ life.need) (ends : high ≤ length steps)
    (points : (k : ℕ) (x : Step) → slice_get steps k ≡ Some x → is_read x v ≡ true → (life.need ≤ k) × (k ≤ high)) where
  -- a line that is marked, among those that were looked at
  IsTold : ℕ → Type 0
  IsTold k = (life.need ≤ k) × (k ≤ high) × (is_marked marks k ≡ true)

  told_behind :
      (at : ℕ) (x : Step) (later : List Bool) → ((j : ℕ) → get_or later j false ≡ true → IsTold (at + 1 + j)) → slice_get steps at ≡ Some x
      → x.falls ≡ true → is_written x.written v ≡ false → get_or later 0 false ≡ true → IsTold at
  unfolding IsTold
  told_behind at x later more there f w h =
      let next = subst IsTold (omega arith) (more 0 h) in
      let q : IsTold (at + 1) = next in
      let l = s.looked (at + 1) (omega (arith, all, q.0)) q.1 q.2 in
      (omega (arith, l.0), omega (arith, q.1), s.behind at x (omega (arith, l.0, all)) (omega (arith, q.1)) there f w q.2)

  told_aside :
      (at t : ℕ) (x : Step) (later : List Bool) → ((j : ℕ) → get_or later j false ≡ true → IsTold (at + 1 + j)) → slice_get steps at ≡ Some x
      → goes_aside x t ≡ true → at < t → get_or later (t - (at + 1)) false ≡ true → IsTold at
  unfolding IsTold
  told_aside at t x later more there a below h =
      let e : at + 1 + (t - (at + 1)) ≡ t = omega (arith, below) in
      let q : IsTold t = subst IsTold e (more (t - (at + 1)) h) in
      let l = s.looked t (omega (arith, all, q.0)) q.1 q.2 in
      let b = heads.sources at t x (omega (arith, q.1, ends, below)) there a (omega (arith, q.1, ends)) in
      (omega (arith, l.1, b.0), omega (arith, q.1, below), s.aside at t x (omega (arith, l.1, b.0, all)) below q.1 there a q.2)

  told_here :
      (at : ℕ) (x : Step) (later : List Bool) → ((j : ℕ) → get_or later j false ≡ true → IsTold (at + 1 + j)) → slice_get steps at ≡ Some x
      → alive_before v at x later ≡ true → IsTold at
  unfolding IsTold
  told_here at x later more there h =
      elim (either (is_read x v) _ h) [
        | inl r ↦ (let p = points at x there r in (p.0, p.1, s.reads at x (omega (arith, all, p.0)) p.1 there r))
        | inr g ↦
            elim (either (x.falls && (not (is_written x.written v) && get_or later 0 false)) _ g) [
              | inl f ↦
                  (let g = back_true x.falls _ f in
                  let w = not_true (is_written x.written v) (front_true (not (is_written x.written v)) _ g) in
                  told_behind at x later more there (front_true x.falls _ f) w (back_true (not (is_written x.written v)) _ g))
              | inr a ↦
                  (let w = any_where (λ t. nat_lt at t && get_or later (t - (at + 1)) false) x.aside a in
                  told_aside at w.0 x later more there w.1 (ltb-true at w.0 (front_true (nat_lt at w.0) _ w.2)) (back_true (nat_lt at w.0) _ w.2))
            ]
      ]

  told_from :
      (at : ℕ) (last : List Step) → ((j : ℕ) → slice_get last j ≡ slice_get steps (at + j)) → (j : ℕ)
      → get_or (alive_from v at last) j false ≡ true → IsTold (at + j)
  told_from at [] same j h = absurd (cc h)
  told_from at (x ∷ last) same (suc j) h =
      let e : at + 1 + j ≡ at + suc j = omega arith in
      subst IsTold e (told_from (at + 1) last (λ k. let f : at + suc k ≡ at + 1 + k = omega arith in same (suc k) ∙ ap (slice_get steps) f) j h)
  told_from at (x ∷ last) same zero h =
      let e : at ≡ at + 0 = omega arith in
      subst IsTold e
      (told_here at x (alive_from v (at + 1) last)
      (told_from (at + 1) last (λ k. let f : at + suc k ≡ at + 1 + k = omega arith in same (suc k) ∙ ap (slice_get steps) f))
      (ap (slice_get steps) e ∙ sym (same 0)) h)

  pub all_told : (k : ℕ) → alive_ahead steps v k ≡ true → (life.need ≤ k) × (k ≤ high) × (is_marked marks k ≡ true)
  unfolding alive_ahead IsTold
  all_told k h =
      let e : 0 + k ≡ k = omega arith in
      let same : (j : ℕ) → slice_get steps j ≡ slice_get steps (0 + j) = λ j. let f : j ≡ 0 + j = omega arith in ap (slice_get steps) f in
      subst IsTold e (told_from 0 steps same k h)
