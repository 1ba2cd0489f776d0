-- Marks of lines, made from a last line backwards: one line more, and where they tell all that is alive along paths forwards.
use Rattle.std.proofs.Common.{◌≡◌, ◌≢◌, ℕ, ◌+◌, ◌-◌, ◌<◌, ◌≤◌, Bool, true, false, List, length, set, Some, sym, subst, ◌∙◌, arith, inl, inr, get_or-set_other, get_or-set_same}
use Rattle.std.specs.Prelude.{slice_get, slice_index}
use Rattle.back_liveness.specs.declared.barrier.Barrier.{Barrier}
use Rattle.back_liveness.specs.declared.lives.Life.{Life}
use Rattle.back_liveness.specs.declared.step.Step.{Step}
use Rattle.back_liveness.specs.Barriers.{TellsLoop}
use Rattle.back_liveness.specs.Liveness.{is_read, goes_aside}
use Rattle.back_liveness.specs.Ahead.{is_written}
use Rattle.back_liveness.specs.Settled.{is_marked, Settled, CrossingsTold}
use Rattle.back_liveness.proofs.Lists.{same_or_other}

mark_same : (marks : List Bool) (line : ℕ) (b : Bool) → line < length marks → is_marked (set marks line b) line ≡ b
mark_same marks line b h = get_or-set_same marks line b false h

mark_other : (marks : List Bool) (line k : ℕ) (b : Bool) → k ≢ line → is_marked (set marks line b) k ≡ is_marked marks k
mark_other marks line k b ne = get_or-set_other marks line k b false ne

-- what is known of the mark of a line
pub record MarkIs (steps : List Step) (v : ℕ) (marks : List Bool) (high line : ℕ) (b : Bool) : Type 0 where
  pub reads : (s : Step) → slice_get steps line ≡ Some s → is_read s v ≡ true → b ≡ true
  pub behind :
      (s : Step) → line < high → slice_get steps line ≡ Some s → s.falls ≡ true → is_written s.written v ≡ false → is_marked marks (line + 1) ≡ true
      → b ≡ true
  pub aside :
      (t : ℕ) (s : Step) → line < t → t ≤ high → slice_get steps line ≡ Some s → goes_aside s t ≡ true → is_marked marks t ≡ true → b ≡ true

-- a life goes on from another with a line that is marked so
pub record Grows (earliest latest : List ℕ) (line : ℕ) (b : Bool) (old new : Life) : Type 0 where
  pub need : new.need ≤ old.need
  pub from : new.from ≤ old.from
  pub to : old.to ≤ new.to
  pub marked :
      b ≡ true → (new.need ≤ line - 1) × (new.need ≤ slice_index earliest line) × (new.from ≤ line) × (slice_index latest line ≤ new.to)

module _ (steps : List Step) (earliest latest : List ℕ) (v : ℕ) (marks : List Bool) (high line : ℕ) (b : Bool) (old new : Life)
    (s : Settled steps earliest latest v marks high old (line + 1)) (there : line < length marks)
    (m : MarkIs steps v marks high line b) (g : Grows earliest latest line b old new) where
  -- a line that is marked now
  now : b ≡ true → is_marked (set marks line b) line ≡ true
  now e = mark_same marks line b there ∙ e

  before : (k : ℕ) → k ≢ line → is_marked (set marks line b) k ≡ true → is_marked marks k ≡ true
  before k ne h = sym (mark_other marks line k b ne) ∙ h

  stays : (k : ℕ) → k ≢ line → is_marked marks k ≡ true → is_marked (set marks line b) k ≡ true
  stays k ne h = mark_other marks line k b ne ∙ h

  reads :
      (k : ℕ) (x : Step) → line ≤ k → k ≤ high → slice_get steps k ≡ Some x → is_read x v ≡ true → is_marked (set marks line b) k ≡ true
  reads k x low up e r =
      elim (same_or_other k line) [
        | inl q ↦ subst (λ n. is_marked (set marks line b) n ≡ true) (sym q) (now (m.reads x (subst (λ n. slice_get steps n ≡ Some x) q e) r))
        | inr ne ↦ stays k ne (s.reads k x (omega (arith, ne)) up e r)
      ]

  behind :
      (k : ℕ) (x : Step) → line ≤ k → k < high → slice_get steps k ≡ Some x → x.falls ≡ true → is_written x.written v ≡ false
      → is_marked (set marks line b) (k + 1) ≡ true → is_marked (set marks line b) k ≡ true
  behind k x low up e f w next =
      let ne1 : k + 1 ≢ line = omega (arith, low) in
      let next1 = before (k + 1) ne1 next in
      elim (same_or_other k line) [
        | inl q ↦
            subst (λ n. is_marked (set marks line b) n ≡ true) (sym q)
            (now (m.behind x (omega (arith, q, up)) (subst (λ n. slice_get steps n ≡ Some x) q e) f w (subst (λ n. is_marked marks (n + 1) ≡ true) q next1)))
        | inr ne ↦ stays k ne (s.behind k x (omega (arith, ne)) up e f w next1)
      ]

  aside :
      (k t : ℕ) (x : Step) → line ≤ k → k < t → t ≤ high → slice_get steps k ≡ Some x → goes_aside x t ≡ true
      → is_marked (set marks line b) t ≡ true → is_marked (set marks line b) k ≡ true
  aside k t x low far up e a next =
      let ne1 : t ≢ line = omega (arith, low, far) in
      let next1 = before t ne1 next in
      elim (same_or_other k line) [
        | inl q ↦
            subst (λ n. is_marked (set marks line b) n ≡ true) (sym q)
            (now (m.aside t x (omega (arith, q, far)) up (subst (λ n. slice_get steps n ≡ Some x) q e) a next1))
        | inr ne ↦ stays k ne (s.aside k t x (omega (arith, ne)) far up e a next1)
      ]

  looked :
      (k : ℕ) → line ≤ k → k ≤ high → is_marked (set marks line b) k ≡ true
      → (new.need ≤ k - 1) × (new.need ≤ slice_index earliest k) × (new.from ≤ k) × (slice_index latest k ≤ new.to)
  looked k low up h =
      elim (same_or_other k line) [
        | inl q ↦
            subst (λ n. (new.need ≤ n - 1) × (new.need ≤ slice_index earliest n) × (new.from ≤ n) × (slice_index latest n ≤ new.to)) (sym q)
            (g.marked (sym (mark_same marks line b there) ∙ subst (λ n. is_marked (set marks line b) n ≡ true) q h))
        | inr ne ↦
            let l = s.looked k (omega (arith, ne)) up (before k ne h) in
            let need = g.need in let from = g.from in let to = g.to in
            (omega (arith, l.0), omega (arith, l.1), omega (arith, l.2), omega (arith, l.3))
      ]

  pub one_more : Settled steps earliest latest v (set marks line b) high new line
  one_more = record { reads = reads; behind = behind; aside = aside; looked = looked }

-- with a line more marked, crossings in its loop are told too
pub one_more_told :
    (barriers : List Barrier) (latest : List ℕ) (v : ℕ) (marks : List Bool) (high line : ℕ) (b old new : Bool) → line < length marks
    → CrossingsTold barriers latest v marks high old (line + 1) → (old ≡ true → new ≡ true) → (b ≡ true → TellsLoop barriers latest v line new)
    → CrossingsTold barriers latest v (set marks line b) high new line
one_more_told barriers latest v marks high line b old new there before known now k low up marked x from to crosses =
    elim (same_or_other k line) [
      | inl q ↦
          now (sym (mark_same marks line b there) ∙ subst (λ n. is_marked (set marks line b) n ≡ true) q marked) x
          (subst (λ n. n ≤ x) q from) (subst (λ n. x ≤ slice_index latest n) q to) crosses
      | inr ne ↦ known (before k (omega (arith, ne, low)) up (sym (mark_other marks line k b ne) ∙ marked) x from to crosses)
    ]
