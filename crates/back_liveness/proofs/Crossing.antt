-- What is told to be crossed is crossed at some line of its interval.
use Rattle.std.proofs.Common.{◌≡◌, ℕ, zero, suc, ◌≤◌, Bool, true, false, List, [], ◌∷◌, ◌++◌, length, get_or, Option, None, Some, sym, subst, ◌∙◌, arith, inl, inr}
use Rattle.std.specs.Prelude.{◌⊎◌}
use Rattle.std.proofs.lemmas.List.{get_or_append_left, get_or_push}
use Rattle.back_liveness.specs.declared.barrier.Barrier.{Barrier}
use Rattle.back_liveness.specs.declared.lives.Life.{Life}
use Rattle.back_liveness.specs.declared.step.Interval.{Interval}
use Rattle.back_liveness.specs.Liveness.{IsCrossedWithin, OnlyCrossed}
use Rattle.back_liveness.specs.Points.{EndsBy, EndBy, is_told}
use Rattle.back_liveness.proofs.Lists.{same_or_other}
use Rattle.back_liveness.proofs.Around.{below_or_not}
use Rattle.back_liveness.proofs.Covering.{count_more}

-- in a wider interval
pub crossed_wider :
    (barriers : List Barrier) (v : ℕ) (i j : Interval) → j.from ≤ i.from → i.to ≤ j.to → IsCrossedWithin barriers (Some i) v → IsCrossedWithin barriers (Some j) v
crossed_wider barriers v i j low up c = record {
  line = c.line;
  within = (omega (arith, low, c.within.0), omega (arith, up, c.within.1));
  crosses = c.crosses;
}

-- a life goes on from another one: what was told before, or is crossed from a line to a last one, which are lines of it
pub only_with_line :
    (barriers : List Barrier) (v line last : ℕ) (old new : Life) → new.from ≤ old.from → old.to ≤ new.to → new.from ≤ line → last ≤ new.to
    → (old.crossed ≡ true → IsCrossedWithin barriers (Some (record { from = old.from; to = old.to })) v)
    → (old.crossed ≡ true) ⊎ IsCrossedWithin barriers (Some (record { from = line; to = last })) v
    → IsCrossedWithin barriers (Some (record { from = new.from; to = new.to })) v
only_with_line barriers v line last old new from to before behind known told =
    elim told [
      | inl was ↦ crossed_wider barriers v (record { from = old.from; to = old.to }) (record { from = new.from; to = new.to }) from to (known was)
      | inr here ↦ crossed_wider barriers v (record { from = line; to = last }) (record { from = new.from; to = new.to }) before behind here
    ]

told_nowhere : (crossed : List Bool) (v : ℕ) → length crossed ≤ v → is_told crossed v ≡ true → ⊥
told_nowhere [] v h k = absurd (cc k)
told_nowhere (x ∷ crossed) zero h k = absurd (omega (arith, h))
told_nowhere (x ∷ crossed) (suc v) h k = told_nowhere crossed v (omega (arith, h)) k

-- a register more, the next
pub only_more :
    (barriers : List Barrier) (n : ℕ) (found : List (Option Interval)) (i : Option Interval) (crossed : List Bool) (b : Bool)
    → length found ≡ n → length crossed ≡ n → OnlyCrossed barriers found crossed → (b ≡ true → IsCrossedWithin barriers i n)
    → OnlyCrossed barriers (found ++ i ∷ []) (crossed ++ b ∷ [])
only_more barriers n found i crossed b count count_crossed known told v h =
    elim (same_or_other v n) [
      | inl q ↦
          subst (λ o. IsCrossedWithin barriers o v) (sym (get_or_push found i None v (omega (arith, count, q))))
          (subst (IsCrossedWithin barriers i) (sym q) (told (sym (get_or_push crossed b false v (omega (arith, count_crossed, q))) ∙ h)))
      | inr ne ↦
          elim (below_or_not v n) [
            | inl low ↦
                subst (λ o. IsCrossedWithin barriers o v) (sym (get_or_append_left found (i ∷ []) None v (omega (arith, count, low))))
                (known v (sym (get_or_append_left crossed (b ∷ []) false v (omega (arith, count_crossed, low))) ∙ h))
            | inr high ↦ absurd (told_nowhere (crossed ++ b ∷ []) v (omega (arith, count_more crossed b n count_crossed, high, ne)) h)
          ]
    ]

no_end : (n : ℕ) (found : List (Option Interval)) (v : ℕ) → length found ≤ v → EndsBy n (get_or found v None)
no_end n [] v h = tt
no_end n (x ∷ found) zero h = absurd (omega (arith, h))
no_end n (x ∷ found) (suc v) h = no_end n found v (omega (arith, h))

-- and it ends as the others do
pub ends_more :
    (n count : ℕ) (found : List (Option Interval)) (i : Option Interval) → length found ≡ count → EndBy n found → EndsBy n i → EndBy n (found ++ i ∷ [])
ends_more n count found i is known ends v =
    elim (same_or_other v count) [
      | inl q ↦ subst (EndsBy n) (sym (get_or_push found i None v (omega (arith, is, q)))) ends
      | inr ne ↦
          elim (below_or_not v count) [
            | inl low ↦ subst (EndsBy n) (sym (get_or_append_left found (i ∷ []) None v (omega (arith, is, low)))) (known v)
            | inr high ↦ no_end n (found ++ i ∷ []) v (omega (arith, count_more found i count is, high, ne))
          ]
    ]
