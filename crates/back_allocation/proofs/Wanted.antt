-- Names stand in slots for a reason.
use Rattle.std.proofs.Common.{◌≡◌, ◌≢◌, ℕ, zero, suc, ◌+◌, ◌<◌, ◌≤◌, Bool, true, false, List, [], ◌∷◌, length, get_or, Option, None, Some, refl, sym, subst, ◌∙◌, arith, inl, inr, eq-eqb}
use Rattle.std.specs.Prelude.{◌⊎◌, ◌==◌, slice_get, slice_index}
use Rattle.std.specs.List.{list_any}
use Rattle.std.proofs.lemmas.List.Folds.{list_any_at}
use Rattle.mid_lines.specs.declared.line.Line.{Line}
use Rattle.back_liveness.specs.declared.barrier.Barrier.{Barrier}
use Rattle.back_liveness.specs.declared.step.Step.{Step}
use Rattle.back_liveness.specs.declared.step.Interval.{Interval}
use Rattle.back_liveness.specs.Barriers.{Crosses, barrier_at}
use Rattle.back_liveness.specs.Liveness.{IsWithin, IsCovered, IsLive, IsCrossedWithin, OnlyCrossed, Covers}
use Rattle.back_liveness.specs.Points.{EndsBy, EndBy}
use Rattle.back_scan.specs.declared.spot.Spot.{Spot}
use Rattle.back_scan.specs.declared.spot.Wish.{Wish}
use Rattle.back_scan.specs.declared.spot.Wish.TheVariants.{Any, Only, InSlot}
use Rattle.back_scan.specs.Spots.{interval_of, HasHolder, NoneIsLeft, StandWell}
use Rattle.back_allocation.specs.Barriers.{call_result, may_cut}
use Rattle.back_allocation.specs.Constants.{constant_in, AreKept}
use Rattle.back_allocation.specs.Slots.{AreLives, HasToOutlast, a_call, a_cut, IsSlotWanted, outlasting, passed, full, AreSlotsWanted, OnlyOutlasting, IsAskedFor, for_crossed, for_passed, for_passed_in_none, for_other, owner_at, AreAsked}
use Rattle.back_allocation.specs.Wishes.{wish_at}
use Rattle.back_allocation.proofs.Naming.{below_or_not}

-- what is crossed with a line more has to outlast something, if all before did
pub outlasting_more :
    (lines : List Line) (landings : ℕ → List ℕ) (line : ℕ) (x : Line) (old middle new : List Barrier) → slice_get lines line ≡ Some x
    → length old ≡ length new → OnlyOutlasting lines landings old
    → ((t v : ℕ) → Crosses (barrier_at middle t) v
    → Crosses (barrier_at old t) v ⊎ ((t ≡ line + 1) × ((to : ℕ) × (call_result x ≡ Some to) × (v ≢ to))))
    → ((t v : ℕ) → Crosses (barrier_at new t) v
    → Crosses (barrier_at middle t) v ⊎ ((may_cut x ≡ true) × (list_any (λ a. a == t) (landings line) ≡ true)))
    → OnlyOutlasting lines landings new
outlasting_more lines landings line x old middle new there long known called landed t v low crosses =
    elim (landed t v crosses) [
      | inl mid ↦
          elim (called t v mid) [
            | inl was ↦ known t v (omega (arith, low, long)) was
            | inr c ↦ subst (HasToOutlast lines landings v) (sym c.0) (a_call line c.1.0 x there c.1.1 c.1.2)
          ]
      | inr c ↦ a_cut line t x there c.0 c.1
    ]

-- with a landing more
pub landed_more :
    (landings : List ℕ) (at x v : ℕ) (initial old new : List Barrier) → at < length landings
    → (Crosses (barrier_at old x) v → Crosses (barrier_at initial x) v ⊎ (list_any (λ a. a == x) landings ≡ true))
    → (Crosses (barrier_at new x) v → Crosses (barrier_at old x) v ⊎ (x ≡ slice_index landings at)) → Crosses (barrier_at new x) v
    → Crosses (barrier_at initial x) v ⊎ (list_any (λ a. a == x) landings ≡ true)
landed_more landings at x v initial old new there known more h =
    elim (more h) [
      | inl was ↦ known was
      | inr q ↦ inr (list_any_at (λ a. a == x) landings at 0 there (eq-eqb (slice_index landings at) x (sym q)))
    ]

interval_there : (intervals : List (Option Interval)) (v : ℕ) (i : Interval) → interval_of intervals v ≡ Some i → v < length intervals
interval_there [] v i e = absurd (cc e)
interval_there (o ∷ intervals) zero i e = omega arith
interval_there (o ∷ intervals) (suc v) i e = let more = interval_there intervals v i e in omega (arith, more)

module _
    (lines : List Line) (landings : ℕ → List ℕ) (parameters : ℕ) (owners : List ℕ) (found kept : List (Option Interval)) (parts : List (List Interval))
    (crossed : List Bool) (barriers : List Barrier) (constants : List (Option ℕ)) (wishes : List Wish) (spots : List (Option Spot)) (slots : ℕ)
    (long : length barriers ≡ length lines + 1) (ends : EndBy (length lines) found) (only : OnlyCrossed barriers found crossed)
    (barred : OnlyOutlasting lines landings barriers) (keep : AreKept constants found kept)
    (asked : AreAsked kept crossed parameters owners (length kept) wishes) (s : StandWell kept parts wishes spots slots) where
  held_too : (line r : ℕ) → HasHolder kept parts spots line r → HasHolder found parts spots line r
  held_too line r h = record { holder = h.holder; stands = h.stands; covers = by (constant_in constants h.holder) refl }
    where
      by : (c : Option ℕ) → constant_in constants h.holder ≡ c → IsCovered found h.holder line
      by None e = subst (λ o. IsWithin o line) (keep.same h.holder e) h.covers
      by (Some w) e = absurd (subst (λ o. IsWithin o line) (keep.none h.holder w e) h.covers)

  pub slots_wanted : AreSlotsWanted lines landings parameters owners constants found parts spots
  slots_wanted v k i stands there none = by (wish_at wishes v) refl (asked v i (interval_there kept v i here) here)
    where
      here : interval_of kept v ≡ Some i
      here = keep.same v none ∙ there

      left : (w : Wish) → wish_at wishes v ≡ w → NoneIsLeft kept parts spots w i.from
      left w e = subst (λ x. NoneIsLeft kept parts spots x i.from) e (s.full v k i stands here)

      end : i.to ≤ length lines
      end = subst (EndsBy (length lines)) there (ends v)

      by :
          (w : Wish) → wish_at wishes v ≡ w → IsAskedFor parameters v (owner_at owners v) i (get_or crossed v false) w
          → IsSlotWanted lines landings parameters owners found parts spots v i
      by w e (for_crossed told) =
          let c = subst (λ o. IsCrossedWithin barriers o v) there (only v told) in
          outlasting c.line c.within (barred c.line v (omega (arith, c.within.1, end, long)) c.crosses)
      by w e (for_passed q from of low) =
          passed q from of (λ l. held_too 0 q (subst (λ n. HasHolder kept parts spots n q) from (left (Only q) e q (low, refl))))
      by w e (for_passed_in_none q from of high) = passed q from of (λ l. absurd (omega (arith, l, high)))
      by w e for_other = full (λ r low. held_too i.from r (left Any e r low))

-- a parameter asks for its own register or for a slot
pub asked_own :
    (parameters v owner q : ℕ) (i : Interval) (crossed : Bool) (w : Wish) → i.from ≡ 0 → (q < parameters) × ((q ≡ v) ⊎ (q ≡ owner))
    → (q < 14 → w ≡ Only q) → (14 ≤ q → w ≡ InSlot) → IsAskedFor parameters v owner i crossed w
asked_own parameters v owner q i crossed w from of register slot =
    elim (below_or_not q 14) [
      | inl low ↦ subst (IsAskedFor parameters v owner i crossed) (sym (register low)) (for_passed q from of low)
      | inr high ↦ subst (IsAskedFor parameters v owner i crossed) (sym (slot high)) (for_passed_in_none q from of high)
    ]

-- intervals that were found have the lines at which names are alive, and those behind lines that write them
pub lives_are :
    (steps : List Step) (barriers : List Barrier) (names : ℕ) (found : List (Option Interval)) (parts : List (List Interval)) (crossed : List Bool)
    → length found ≡ names → Covers steps barriers found parts crossed
    → ((v line : ℕ) → v < names → IsLive steps v line → IsCovered found v line) → AreLives steps names found
lives_are steps barriers names found parts crossed count covers alive = record {
  alive = alive;
  written = λ v line s low there writes. covers.inside v (line + 1) (covers.written v line s (omega (arith, low, count)) there writes);
}
