-- The scan over live intervals chooses places by which all registers of lines stand well.
use Rattle.std.proofs.Common.{◌≡◌, ◌≢◌, ℕ, zero, suc, ◌+◌, ◌<◌, ◌≤◌, Bool, true, false, ◌&&◌, List, [], ◌∷◌, length, get_or, Option, None, Some, refl, sym, ap, subst, ◌∙◌, arith, inl, inr, eqb-true, eq-eqb}
use Rattle.std.specs.Prelude.{◌==◌, slice_get, if◌then◌else◌}
use Rattle.mid_code.specs.declared.operation.Operation.{Operation}
use Rattle.mid_code.specs.declared.operation.Operation.TheVariants as operation
use Rattle.mid_lines.specs.declared.line.Line.{Line}
use Rattle.mid_lines.specs.declared.line.Line.TheVariants.{Do, Branch, Switch, Jump, Lay, Landed, GiveBack, Lend, GiveBackLent, Return, Cut, Halt, Unhandled}
use Rattle.mid_lines.proofs.Conjunctions.{front_true, back_true, both_true}
use Rattle.back_places.specs.declared.place.Place.{Place}
use Rattle.back_places.specs.declared.place.Place.TheVariants.{InRegister, InSlot, AsConstant}
use Rattle.back_places.specs.Places.{value_registers, argument_register}
use Rattle.back_places.specs.Facts.{Apart, Outlasts, IsSomewhere, CanHold, IsPlace}
use Rattle.back_trivial.specs.OwnSlots.{no_target}
use Rattle.back_liveness.specs.declared.barrier.Barrier.{Barrier}
use Rattle.back_liveness.specs.declared.step.Interval.{Interval}
use Rattle.back_liveness.specs.declared.step.Step.{Step}
use Rattle.back_liveness.specs.Barriers.{Crosses, barrier_at}
use Rattle.back_liveness.specs.Liveness.{GoesAlong, IsWithin, IsCovered, have_line, is_held, Covers}
use Rattle.back_liveness.proofs.Around.{there_below}
use Rattle.back_scan.specs.declared.spot.Spot.{Spot}
use Rattle.back_scan.specs.declared.spot.Spot.TheVariants.{Held, Slot}
use Rattle.back_scan.specs.declared.spot.Wish.{Wish}
use Rattle.back_scan.specs.declared.spot.Wish.TheVariants as asks
use Rattle.back_scan.specs.Spots.{Allows, IsAllowed, spot_of, interval_of, StandWell}
use Rattle.back_allocation.specs.LineSteps.{line_gives, step_of, steps_from}
use Rattle.back_allocation.specs.Barriers.{may_cut, AreBarriers}
use Rattle.back_allocation.specs.Constants.{constant_in, AreConstants, AreKept, AreKeptParts}
use Rattle.back_allocation.specs.Wishes.{IsOwnWish, wish_at, WishesHold}
use Rattle.back_allocation.specs.Standing.{MayCut, CanBeGiven, IsOwnPlace}
use Rattle.back_allocation.specs.Places.{place_of, place_chosen, place_in, is_entered, enters_in, begins_in, ChosenWell}
use Rattle.back_allocation.proofs.Facts.{step_there}
use Rattle.back_allocation.proofs.Naming.{below_or_not}

-- the fourteen value registers are registers of values, and different ones
number_from : ℕ → ℕ → List ℕ → ℕ
number_from at r [] = at
number_from at r (x ∷ xs) = if x == r then at else number_from (at + 1) r xs

numbered : (r : ℕ) → r < 14 → number_from 0 (argument_register r) value_registers ≡ r
unfolding number_from
numbered zero h = refl
numbered (suc zero) h = refl
numbered (suc (suc zero)) h = refl
numbered (suc (suc (suc zero))) h = refl
numbered (suc (suc (suc (suc zero)))) h = refl
numbered (suc (suc (suc (suc (suc zero))))) h = refl
numbered (suc (suc (suc (suc (suc (suc zero)))))) h = refl
numbered (suc (suc (suc (suc (suc (suc (suc zero))))))) h = refl
numbered (suc (suc (suc (suc (suc (suc (suc (suc zero)))))))) h = refl
numbered (suc (suc (suc (suc (suc (suc (suc (suc (suc zero))))))))) h = refl
numbered (suc (suc (suc (suc (suc (suc (suc (suc (suc (suc zero)))))))))) h = refl
numbered (suc (suc (suc (suc (suc (suc (suc (suc (suc (suc (suc zero))))))))))) h = refl
numbered (suc (suc (suc (suc (suc (suc (suc (suc (suc (suc (suc (suc zero)))))))))))) h = refl
numbered (suc (suc (suc (suc (suc (suc (suc (suc (suc (suc (suc (suc (suc zero))))))))))))) h = refl
numbered (suc (suc (suc (suc (suc (suc (suc (suc (suc (suc (suc (suc (suc (suc r)))))))))))))) h = absurd (omega (arith, h))

different : (r q : ℕ) → r < 14 → q < 14 → r ≢ q → argument_register r ≢ argument_register q
different r q h k ne e = ne (sym (numbered r h) ∙ (ap (λ n. number_from 0 n value_registers) e ∙ numbered q k))

value_place : (n r : ℕ) → r < 14 → IsPlace n (InRegister (argument_register r))
value_place n zero h = (omega arith, omega arith, omega arith, omega arith, omega arith)
value_place n (suc zero) h = (omega arith, omega arith, omega arith, omega arith, omega arith)
value_place n (suc (suc zero)) h = (omega arith, omega arith, omega arith, omega arith, omega arith)
value_place n (suc (suc (suc zero))) h = (omega arith, omega arith, omega arith, omega arith, omega arith)
value_place n (suc (suc (suc (suc zero)))) h = (omega arith, omega arith, omega arith, omega arith, omega arith)
value_place n (suc (suc (suc (suc (suc zero))))) h = (omega arith, omega arith, omega arith, omega arith, omega arith)
value_place n (suc (suc (suc (suc (suc (suc zero)))))) h = (omega arith, omega arith, omega arith, omega arith, omega arith)
value_place n (suc (suc (suc (suc (suc (suc (suc zero))))))) h = (omega arith, omega arith, omega arith, omega arith, omega arith)
value_place n (suc (suc (suc (suc (suc (suc (suc (suc zero)))))))) h = (omega arith, omega arith, omega arith, omega arith, omega arith)
value_place n (suc (suc (suc (suc (suc (suc (suc (suc (suc zero))))))))) h = (omega arith, omega arith, omega arith, omega arith, omega arith)
value_place n (suc (suc (suc (suc (suc (suc (suc (suc (suc (suc zero)))))))))) h = (omega arith, omega arith, omega arith, omega arith, omega arith)
value_place n (suc (suc (suc (suc (suc (suc (suc (suc (suc (suc (suc zero))))))))))) h = (omega arith, omega arith, omega arith, omega arith, omega arith)
value_place n (suc (suc (suc (suc (suc (suc (suc (suc (suc (suc (suc (suc zero)))))))))))) h = (omega arith, omega arith, omega arith, omega arith, omega arith)
value_place n (suc (suc (suc (suc (suc (suc (suc (suc (suc (suc (suc (suc (suc zero))))))))))))) h = (omega arith, omega arith, omega arith, omega arith, omega arith)
value_place n (suc (suc (suc (suc (suc (suc (suc (suc (suc (suc (suc (suc (suc (suc r)))))))))))))) h = absurd (omega (arith, h))

allowed_low : (wish : Wish) (r : ℕ) → Allows wish r → r < 14
allowed_low asks.Any r h = h
allowed_low (asks.Only q) r h = h.0
allowed_low asks.InSlot r h = absurd h

-- spots that are not the same are places apart
spots_apart : (p q : Spot) (wp wq : Wish) → IsAllowed wp p → IsAllowed wq q → (p ≡ q → ⊥) → Apart (place_of (Some p)) (place_of (Some q))
spots_apart (Held r) (Held s) wp wq h k ne = different r s (allowed_low wp r h) (allowed_low wq s k) (λ e. ne (ap Held e))
spots_apart (Held r) (Slot j) wp wq h k ne = tt
spots_apart (Slot i) (Held s) wp wq h k ne = tt
spots_apart (Slot i) (Slot j) wp wq h k ne = λ e. let d : i ≡ j = omega (arith, e) in ne (ap Slot d)

cut_told : (x : Line) → MayCut x → may_cut x ≡ true
cut_told (Do (operation.Call to callee arguments)) h = refl
cut_told (Do o) h = absurd h
cut_told (Cut block word) h = refl
cut_told x h = absurd h

has_interval : (o : Option Interval) (line : ℕ) → IsWithin o line → (i : Interval) × (o ≡ Some i)
has_interval None line h = absurd h
has_interval (Some i) line h = (i, refl)

-- a spot for one that asks for none is a slot
slot_outlasts : (p : Spot) (wish : Wish) → IsAllowed wish p → wish ≡ asks.InSlot → Outlasts (place_of (Some p))
slot_outlasts (Held r) wish h e = absurd (subst (λ w. Allows w r) e h)
slot_outlasts (Slot k) wish h e = tt

own_place : (v : ℕ) (p : Spot) (wish : Wish) → IsAllowed wish p → IsOwnWish v wish → IsOwnPlace v (place_of (Some p))
own_place v (Slot k) wish h o = tt
own_place v (Held r) asks.Any h o = absurd o
own_place v (Held r) (asks.Only q) h o = let e : r ≡ v = h.1 ∙ o.1 in (o.0, ap argument_register e)
own_place v (Held r) asks.InSlot h o = absurd h

spot_somewhere : (p : Spot) → IsSomewhere (place_of (Some p))
spot_somewhere (Held r) = tt
spot_somewhere (Slot k) = tt

pub beyond_none : {X : Type 0} (xs : List (Option X)) (v : ℕ) → length xs ≤ v → get_or xs v None ≡ None
beyond_none [] v h = refl
beyond_none (x ∷ xs) zero h = absurd (omega (arith, h))
beyond_none (x ∷ xs) (suc v) h = beyond_none xs v (omega (arith, h))

entered_within : (o : Option Interval) → is_entered o ≡ true → IsWithin o 0
entered_within None h = absurd (cc h)
entered_within (Some i) h = let e = eqb-true i.from 0 h in (omega (arith, e), omega arith)

within_entered : (o : Option Interval) → IsWithin o 0 → is_entered o ≡ true
within_entered None h = absurd h
within_entered (Some i) h = eq-eqb i.from 0 (omega (arith, h.0))

place_not : (constants : List (Option ℕ)) (spots : List (Option Spot)) (v : ℕ) → constant_in constants v ≡ None → place_in constants spots v ≡ place_of (spot_of spots v)
place_not constants spots v e = ap (λ o. place_chosen o (spot_of spots v)) e

place_word : (constants : List (Option ℕ)) (spots : List (Option Spot)) (v w : ℕ) → constant_in constants v ≡ Some w → place_in constants spots v ≡ AsConstant w
place_word constants spots v w e = ap (λ o. place_chosen o (spot_of spots v)) e

-- a constant is nowhere
word_apart : (w : ℕ) (q : Place) → Apart (AsConstant w) q
word_apart w (InRegister r) = tt
word_apart w (InSlot k) = tt
word_apart w (AsConstant u) = tt

apart_word : (w : ℕ) (q : Place) → Apart q (AsConstant w)
apart_word w (InRegister r) = tt
apart_word w (InSlot k) = tt
apart_word w (AsConstant u) = tt

-- a place that holds words holds the word of any line
hold_any : (word : ℕ) (p : Place) → IsSomewhere p → CanHold p word
hold_any word (InRegister r) h = tt
hold_any word (InSlot k) h = tt
hold_any word (AsConstant w) h = absurd h

operation_given : (o : Operation) (p : Place) → IsSomewhere p → CanBeGiven (Do o) p
operation_given (operation.Constant to word) p h = hold_any word p h
operation_given (operation.Move to from) p h = h
operation_given (operation.Compute to which first second) p h = h
operation_given (operation.Load to base offset) p h = h
operation_given (operation.Store from base offset) p h = h
operation_given (operation.Request to words) p h = h
operation_given (operation.Draw to base offset) p h = h
operation_given (operation.Put from) p h = h
operation_given (operation.Get to) p h = h
operation_given (operation.Call to callee arguments) p h = h

somewhere_given : (x : Line) (p : Place) → IsSomewhere p → CanBeGiven x p
somewhere_given (Do o) p h = operation_given o p h
somewhere_given (Branch t otherwise) p h = h
somewhere_given (Switch r targets) p h = h
somewhere_given (Jump to) p h = h
somewhere_given (Lay block words landing) p h = h
somewhere_given (Landed r) p h = h
somewhere_given (GiveBack words) p h = h
somewhere_given (Lend block words) p h = h
somewhere_given GiveBackLent p h = h
somewhere_given (Return r) p h = h
somewhere_given (Cut block word) p h = h
somewhere_given (Halt r) p h = h
somewhere_given (Unhandled class site condition) p h = h

-- where all that is held is covered
abbrev pub Inside : List (Option Interval) → (parts : List (List Interval)) → Type 0
Inside intervals parts = (v x : ℕ) → is_held parts v x ≡ true → IsCovered intervals v x

-- nothing is held behind the end
none_held : (ps : List (List Interval)) (v x : ℕ) → length ps ≤ v → is_held ps v x ≡ true → ⊥
none_held [] v x h k = absurd (cc k)
none_held (q ∷ ps) zero x h k = absurd (omega (arith, h))
none_held (q ∷ ps) (suc v) x h k = none_held ps v x (omega (arith, h)) k

-- so it is where names of constants have nothing
pub kept_inside :
    (constants : List (Option ℕ)) (found kept : List (Option Interval)) (parts kept_parts : List (List Interval)) → AreKept constants found kept
    → AreKeptParts constants parts kept_parts → Inside found parts → Inside kept kept_parts
kept_inside constants found kept parts kept_parts k p inside v x h = by (constant_in constants v) refl
  where
    by : (c : Option ℕ) → constant_in constants v ≡ c → IsCovered kept v x
    by None e =
        subst (λ i. IsWithin i x) (sym (k.same v e)) (inside v x (subst (λ (ps : List Interval). have_line ps x ≡ true) (p.same v e) h))
    by (Some w) e =
        elim (below_or_not v (length kept_parts)) [
          | inl low ↦ (let l = p.long in let none = p.none v w (omega (arith, low, l)) e in absurd (cc (h, none)))
          | inr beyond ↦ absurd (none_held kept_parts v x beyond h)
        ]

-- two tests that go along with lines go along both
both_along :
    (steps : List Step) (one other : (register line : ℕ) → Bool) → GoesAlong steps one → GoesAlong steps other
    → GoesAlong steps (λ v line. one v line && other v line)
both_along steps one other a b = record {
  reads = λ v line s e r. both_true (one v line) _ (a.reads v line s e r) (b.reads v line s e r);
  behind = λ v line s e falls ne h.
      both_true (one v line) _ (a.behind v line s e falls ne (front_true (one v (line + 1)) _ h))
      (b.behind v line s e falls ne (back_true (one v (line + 1)) _ h));
  aside = λ v line to s e g h.
      both_true (one v line) _ (a.aside v line to s e g (front_true (one v to) _ h)) (b.aside v line to s e g (back_true (one v to) _ h));
}

module _
    (lines : List Line) (parameters : ℕ) (landings : ℕ → List ℕ) (registers : ℕ) (found again kept : List (Option Interval)) (parts parts_again kept_parts : List (List Interval)) (crossed told : List Bool)
    (barriers overwritten : List Barrier) (constants : List (Option ℕ)) (wishes : List Wish) (spots : List (Option Spot)) (slots : ℕ)
    (count : length found ≡ registers) (same_count : length again ≡ registers) (covers : Covers (steps_from landings 0 lines) barriers found parts crossed)
    (more : Covers (steps_from landings 0 lines) overwritten again parts_again told) (b : AreBarriers lines landings (length lines) barriers)
    (are : AreConstants lines (length lines) parameters registers constants) (keep : AreKept constants found kept)
    (w : WishesHold kept crossed parameters (length kept) wishes) (s : StandWell kept kept_parts wishes spots slots) (keep_parts : AreKeptParts constants parts kept_parts)
    (inside : Inside kept kept_parts)
    (form : (line to : ℕ) (x : Line) → slice_get lines line ≡ Some x → line_gives x ≡ Some to → to < registers) where
  abbrev alive : (name line : ℕ) → Bool
  alive v line = covers.test v line && more.test v line

  alive_first : (v line : ℕ) → alive v line ≡ true → covers.test v line ≡ true
  alive_first v line h = front_true (covers.test v line) (more.test v line) h

  -- the spot of a name whose interval has a line
  spot_at : (v line : ℕ) → IsCovered kept v line → (p : Spot) × (spot_of spots v ≡ Some p)
  spot_at v line h = let i = has_interval (interval_of kept v) line h in s.all v i.0 i.1

  none_beyond : (v : ℕ) → length found ≤ v → place_in constants spots v ≡ no_target
  none_beyond v h =
      let e = s.count in
      let k = keep.long in
      let l = are.long in
      place_not constants spots v (beyond_none constants v (omega (arith, l, count, h)))
      ∙ ap place_of (beyond_none spots v (omega (arith, e, k, h)))

  -- one that has no constant, where its interval has a line
  kept_line : (v line : ℕ) → IsCovered found v line → constant_in constants v ≡ None → IsCovered kept v line
  kept_line v line h e = subst (λ i. IsWithin i line) (sym (keep.same v e)) h

  -- and is held at a line
  kept_held : (v line : ℕ) → is_held parts v line ≡ true → constant_in constants v ≡ None → is_held kept_parts v line ≡ true
  kept_held v line h e = subst (λ (ps : List Interval). have_line ps line ≡ true) (sym (keep_parts.same v e)) h

  -- two that are held at a line are apart
  two_kept :
      (v u line : ℕ) → (constant_in constants v ≡ None → is_held kept_parts v line ≡ true) → (constant_in constants u ≡ None → is_held kept_parts u line ≡ true) → v ≢ u
      → Apart (place_in constants spots v) (place_in constants spots u)
  two_kept v u line h k ne = by (constant_in constants v) refl (constant_in constants u) refl
    where
      by :
          (c : Option ℕ) → constant_in constants v ≡ c → (d : Option ℕ) → constant_in constants u ≡ d
          → Apart (place_in constants spots v) (place_in constants spots u)
      by (Some a) e d g = subst (λ p. Apart p (place_in constants spots u)) (sym (place_word constants spots v a e)) (word_apart a (place_in constants spots u))
      by None e (Some a) g = subst (λ p. Apart (place_in constants spots v) p) (sym (place_word constants spots u a g)) (apart_word a (place_in constants spots v))
      by None e None g =
          let p = spot_at v line (inside v line (h e)) in
          let q = spot_at u line (inside u line (k g)) in
          subst (λ o. Apart o (place_in constants spots u)) (sym (place_not constants spots v e ∙ ap place_of p.1))
          (subst (λ o. Apart (place_of (Some p.0)) o) (sym (place_not constants spots u g ∙ ap place_of q.1))
          (spots_apart p.0 q.0 (wish_at wishes v) (wish_at wishes u) (s.allowed v p.0 p.1) (s.allowed u q.0 q.1)
          (λ same. ne (s.apart v u q.0 line (p.1 ∙ ap Some same) q.1 (h e) (k g)))))

  two_apart : (v u line : ℕ) → is_held parts v line ≡ true → is_held parts u line ≡ true → v ≢ u → Apart (place_in constants spots v) (place_in constants spots u)
  two_apart v u line h k ne = two_kept v u line (kept_held v line h) (kept_held u line k) ne

  apart : (v u line : ℕ) → alive v line ≡ true → alive u line ≡ true → v ≢ u → Apart (place_in constants spots v) (place_in constants spots u)
  apart v u line h k ne =
      elim (below_or_not v (length found)) [
        | inr beyond ↦ subst (λ p. Apart p (place_in constants spots u)) (sym (none_beyond v beyond)) (word_apart 0 (place_in constants spots u))
        | inl low ↦
            elim (below_or_not u (length found)) [
              | inr beyond ↦ subst (λ p. Apart (place_in constants spots v) p) (sym (none_beyond u beyond)) (apart_word 0 (place_in constants spots v))
              | inl low2 ↦ two_apart v u line (covers.within v line low (alive_first v line h)) (covers.within u line low2 (alive_first u line k)) ne
            ]
      ]

  given_held : (line to : ℕ) (x : Line) → slice_get lines line ≡ Some x → line_gives x ≡ Some to → is_held parts to (line + 1) ≡ true
  given_held line to x e g =
      let low = form line to x e g in
      covers.written to line (step_of (landings line) x) (omega (arith, low, count)) (step_there landings line lines x e) g

  given :
      (line to v : ℕ) (x : Line) → slice_get lines line ≡ Some x → line_gives x ≡ Some to → alive v (line + 1) ≡ true → v ≢ to
      → Apart (place_in constants spots v) (place_in constants spots to)
  given line to v x e g h ne =
      elim (below_or_not v (length found)) [
        | inr beyond ↦ subst (λ p. Apart p (place_in constants spots to)) (sym (none_beyond v beyond)) (word_apart 0 (place_in constants spots to))
        | inl low ↦ two_apart v to (line + 1) (covers.within v (line + 1) low (alive_first v (line + 1) h)) (given_held line to x e g) ne
      ]

  somewhere : (line to : ℕ) (x : Line) → slice_get lines line ≡ Some x → line_gives x ≡ Some to → CanBeGiven x (place_in constants spots to)
  somewhere line to x e g = by (constant_in constants to) refl
    where
      by : (c : Option ℕ) → constant_in constants to ≡ c → CanBeGiven x (place_in constants spots to)
      by (Some a) k =
          subst (CanBeGiven x) (sym (place_word constants spots to a k))
          (subst (λ y. CanBeGiven y (AsConstant a)) (sym (are.given line to a x (there_below lines line x e) e g k)) refl)
      by None k =
          let p = spot_at to (line + 1) (inside to (line + 1) (kept_held to (line + 1) (given_held line to x e g) k)) in
          subst (CanBeGiven x) (sym (place_not constants spots to k ∙ ap place_of p.1)) (somewhere_given x (place_of (Some p.0)) (spot_somewhere p.0))

  -- one that is alive where a barrier crosses it outlasts calls
  outlasts : (v line : ℕ) → alive v line ≡ true → Crosses (barrier_at barriers line) v → Outlasts (place_in constants spots v)
  outlasts v line h k =
      elim (below_or_not v (length found)) [
        | inr beyond ↦ subst Outlasts (sym (none_beyond v beyond)) tt
        | inl low ↦ by low (constant_in constants v) refl
      ]
    where
      by : v < length found → (c : Option ℕ) → constant_in constants v ≡ c → Outlasts (place_in constants spots v)
      by low (Some a) e = subst Outlasts (sym (place_word constants spots v a e)) tt
      by low None e =
          let i = inside v line (kept_held v line (covers.within v line low (alive_first v line h)) e) in
          let p = spot_at v line i in
          let l = keep.long in
          subst Outlasts (sym (place_not constants spots v e ∙ ap place_of p.1))
          (slot_outlasts p.0 (wish_at wishes v) (s.allowed v p.0 p.1) (w.outlasting v (omega (arith, low, l)) (covers.crossings v line low (alive_first v line h) k)))

  begun : (v : ℕ) → v < registers → alive v 0 ≡ true → begins_in found v ≡ true
  begun v low h = within_entered (interval_of found v) (covers.inside v 0 (covers.within v 0 (omega (arith, low, count)) (alive_first v 0 h)))

  entered : (v : ℕ) → parameters ≤ registers → v < parameters → alive v 0 ≡ true → enters_in kept_parts v ≡ true
  entered v few low h =
      kept_held v 0 (covers.within v 0 (omega (arith, few, low, count)) (alive_first v 0 h)) (are.passed v low)

  entered_apart : (v u : ℕ) → enters_in kept_parts v ≡ true → enters_in kept_parts u ≡ true → v ≢ u → Apart (place_in constants spots v) (place_in constants spots u)
  entered_apart v u h k ne =
      two_kept v u 0 (λ e. h) (λ e. k) ne

  passed : (v : ℕ) → parameters ≤ registers → v < parameters → enters_in kept_parts v ≡ true → IsOwnPlace v (place_in constants spots v)
  passed v few low h =
      let l = keep.long in
      let there : v < length kept = omega (arith, few, low, count, l) in
      let i = inside v 0 h in
      let p = spot_at v 0 i in
      subst (IsOwnPlace v) (sym (place_not constants spots v (are.passed v low) ∙ ap place_of p.1))
      (own_place v p.0 (wish_at wishes v) (s.allowed v p.0 p.1) (w.passed v there low i))

  spot_placed : (v : ℕ) (o : Option Spot) → spot_of spots v ≡ o → IsPlace (slots + 1) (place_of o)
  spot_placed v None e = omega arith
  spot_placed v (Some (Held r)) e = value_place (slots + 1) r (allowed_low (wish_at wishes v) r (s.allowed v (Held r) e))
  spot_placed v (Some (Slot k)) e = let below = s.within v k e in (omega arith, omega (arith, below))

  placed : (v : ℕ) (c : Option ℕ) → constant_in constants v ≡ c → IsPlace (slots + 1) (place_chosen c (spot_of spots v))
  placed v None e = spot_placed v (spot_of spots v) refl
  placed v (Some a) e = are.words v a e

  clear_is :
      ((v : ℕ) → get_or told v false ≡ true → ⊥) → (v line : ℕ) → v < registers → alive v line ≡ true → Crosses (barrier_at overwritten line) v → ⊥
  clear_is none v line low h k = none v (more.crossings v line (omega (arith, low, same_count)) (back_true (covers.test v line) (more.test v line) h) k)

  pub chosen_well :
      parameters ≤ registers → (clear : Bool) → (clear ≡ true → (v : ℕ) → get_or told v false ≡ true → ⊥)
      → ChosenWell lines parameters landings (place_in constants spots) (enters_in kept_parts) (begins_in found) slots overwritten registers clear
  chosen_well few clear none = record {
    alive = alive;
    stand = record {
      well = record {
        along = both_along (steps_from landings 0 lines) covers.test more.test covers.along more.along;
        apart = apart;
        given = given;
        somewhere = somewhere;
        calls = λ line to v callee arguments e h ne.
            outlasts v (line + 1) h (b.calls line to v (Do (operation.Call to callee arguments)) (there_below lines line (Do (operation.Call to callee arguments)) e) e refl ne);
        landed = λ line landing v x e may a h.
            outlasts v landing h (b.landed line landing v x (there_below lines line x e) e (cut_told x may) a);
      };
      entered = λ v low h. entered v few low h;
      apart = entered_apart;
      passed = λ v low h. passed v few low h;
      places = λ v. placed v (constant_in constants v) refl;
    };
    begun = begun;
    clear_is = λ c v line low h k. clear_is (none c) v line low h k;
  }
