-- The places of parameters: each in its own, or nowhere.
use Rattle.std.proofs.Common.{◌≡◌, ◌≢◌, ℕ, zero, suc, ◌+◌, ◌<◌, ◌≤◌, Bool, true, false, length, Some, refl, sym, ap, ◌∙◌, arith}
use Rattle.std.specs.Prelude.{slice_get, if◌then◌else◌}
use Rattle.back_places.specs.declared.place.Place.{Place}
use Rattle.back_places.specs.declared.place.Place.TheVariants.{InRegister, InSlot, AsConstant}
use Rattle.back_places.specs.Places.{Located}
use Rattle.back_places.specs.Facts.{IsPlace, Apart, IsSomewhere, IsParameterPlace, AreParameterPlaces, AllApart, EachApart}
use Rattle.back_trivial.specs.OwnSlots.{no_target}
use Rattle.back_allocation.specs.Standing.{IsOwnPlace}
use Rattle.back_allocation.specs.Allocated.{parameter_places}

pub more_frame : (n m : ℕ) (p : Place) → n ≤ m → IsPlace n p → IsPlace m p
more_frame n m (InRegister r) h k = k
more_frame n m (InSlot s) h k = (k.0, omega (arith, k.1, h))
more_frame n m (AsConstant w) h k = k

pub nowhere_placed : (n : ℕ) → IsPlace n no_target
nowhere_placed n = omega arith

from_nowhere : (q : Place) → Apart no_target q
from_nowhere (InRegister r) = tt
from_nowhere (InSlot k) = tt
from_nowhere (AsConstant w) = tt

to_nowhere : (p : Place) → Apart p no_target
to_nowhere (InRegister r) = tt
to_nowhere (InSlot k) = tt
to_nowhere (AsConstant w) = tt

pub own_somewhere : (v : ℕ) (p : Place) → IsOwnPlace v p → IsSomewhere p
own_somewhere v (InRegister r) h = tt
own_somewhere v (InSlot k) h = tt
own_somewhere v (AsConstant w) h = h

module _ (spot : ℕ → Place) (enters : ℕ → Bool) where
  abbrev pub place : ℕ → Place
  place v = if enters v then spot v else no_target

  pub count_of : (v count : ℕ) → length (parameter_places spot enters v count) ≡ count
  count_of v zero = refl
  count_of v (suc count) = ap suc (count_of (v + 1) count)

  pub place_at : (v count i : ℕ) (p : Place) → slice_get (parameter_places spot enters v count) i ≡ Some p → (p ≡ place (v + i)) × (i < count)
  place_at v zero i p h = absurd (cc h)
  place_at v (suc count) zero p h = let e : v ≡ v + 0 = omega arith in let q : place v ≡ p = cc h in (sym q ∙ ap place e, omega arith)
  place_at v (suc count) (suc i) p h =
      let more = place_at (v + 1) count i p h in
      let e : v + 1 + i ≡ v + suc i = omega arith in
      (more.0 ∙ ap place e, omega (arith, more.1))

  pub place_there : (v count i : ℕ) → i < count → slice_get (parameter_places spot enters v count) i ≡ Some (place (v + i))
  place_there v zero i h = absurd (omega (arith, h))
  place_there v (suc count) zero h = let e : v ≡ v + 0 = omega arith in ap (λ k. Some (place k)) e
  place_there v (suc count) (suc i) h =
      let e : v + 1 + i ≡ v + suc i = omega arith in
      place_there (v + 1) count i (omega (arith, h)) ∙ ap (λ k. Some (place k)) e

  pub place_entered : (v : ℕ) → enters v ≡ true → place v ≡ spot v
  place_entered v e = ap (λ b. if b then spot v else no_target) e

  -- what holds of spots of registers that are entered, and of no place, holds of places
  pub each_place : (P : Place → Type 0) (v : ℕ) → P no_target → (enters v ≡ true → P (spot v)) → P (place v)
  each_place P v none some = by (enters v) refl
    where
      by : (b : Bool) → enters v ≡ b → P (if b then spot v else no_target)
      by true e = some e
      by false e = none

  module _ (l : Located) (Fact : (number line register : ℕ) → Place → Type 0) where
    own_place : (v : ℕ) (p : Place) → IsOwnPlace v p → IsParameterPlace l Fact v p
    own_place v (InRegister r) h = h
    own_place v (InSlot k) h = tt
    own_place v (AsConstant w) h = tt

    pub parameters_placed :
        (v count : ℕ) → ((u : ℕ) → u < v + count → enters u ≡ true → IsOwnPlace u (spot u))
        → AreParameterPlaces l Fact v (parameter_places spot enters v count)
    parameters_placed v zero h = tt
    parameters_placed v (suc count) h = (
      each_place (IsParameterPlace l Fact v) v tt (λ e. own_place v (spot v) (h v (omega arith) e)),
      parameters_placed (v + 1) count (λ u k. h u (omega (arith, k))),
    )

    module _ (apart : (u w : ℕ) → enters u ≡ true → enters w ≡ true → u ≢ w → Apart (spot u) (spot w)) where
      two_apart : (u w : ℕ) → u ≢ w → Apart (place u) (place w)
      two_apart u w ne =
          each_place (λ p. Apart p (place w)) u (from_nowhere (place w))
          (λ e. each_place (λ q. Apart (spot u) q) w (to_nowhere (spot u)) (λ f. apart u w e f ne))

      later_apart : (u v count : ℕ) → u < v → AllApart l Fact (place u) (parameter_places spot enters v count)
      later_apart u v zero h = tt
      later_apart u v (suc count) h = (two_apart u v (omega (arith, h)), later_apart u (v + 1) count (omega (arith, h)))

      pub all_apart : (v count : ℕ) → EachApart l Fact (parameter_places spot enters v count)
      all_apart v zero = tt
      all_apart v (suc count) = (later_apart v (v + 1) count (omega arith), all_apart (v + 1) count)
