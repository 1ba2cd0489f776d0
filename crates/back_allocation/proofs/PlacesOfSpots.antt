-- The places of spots, and of parameters, one more; and that registers stand well in them.
use Rattle.std.proofs.Common.{◌≡◌, ℕ, zero, suc, ◌+◌, ◌<◌, ◌≤◌, Bool, List, [], ◌∷◌, ◌++◌, length, get_or, Option, None, inl, inr, refl, sym, ap, subst, ◌∙◌, arith}
use mathlib.Core.Path.{fun_ext}
use Rattle.std.specs.Prelude.{if◌then◌else◌}
use Rattle.mid_lines.specs.declared.line.Line.{Line}
use Rattle.mid_lines.specs.declared.line.LineProcedure.{LineProcedure}
use Rattle.back_places.specs.declared.place.Place.{Place}
use Rattle.back_places.specs.declared.place.Place.TheVariants.{InRegister}
use Rattle.back_places.specs.Places.{argument_register}
use Rattle.back_places.specs.Facts.{IsPlace}
use Rattle.back_trivial.specs.OwnSlots.{no_target}
use Rattle.back_scan.specs.declared.spot.Spot.{Spot}
use Rattle.back_liveness.specs.declared.barrier.Barrier.{Barrier}
use Rattle.back_liveness.specs.declared.step.Interval.{Interval}
use Rattle.back_liveness.specs.Liveness.{AreStructured, AreTight}
use Rattle.back_allocation.specs.declared.placing.RegisterPlaces.{RegisterPlaces}
use Rattle.back_allocation.specs.LineSteps.{landings_in, steps_from}
use Rattle.back_allocation.specs.StandingLandings.{line_landings}
use Rattle.back_allocation.specs.Names.{AreNamings, NamesStand}
use Rattle.back_allocation.specs.NamesFound.{owner_in}
use Rattle.back_allocation.specs.Standing.{AllStand}
use Rattle.back_allocation.specs.Allocated.{parameter_places}
use Rattle.back_allocation.specs.Slots.{AreLives, AreSlotsWanted}
use Rattle.back_allocation.specs.Places.{place_of, place_chosen, place_in, place_at, enters_in, ChosenWell}
use Rattle.back_allocation.specs.RegistersPlaced.{StandInPlaces, StandInSlotsForReasons}
use Rattle.back_allocation.proofs.Naming.{below_or_not}
use Rattle.back_allocation.proofs.Choosing.{beyond_none}

-- only the fourteen value registers are places
pub held_low : (n r : ℕ) → IsPlace n (InRegister (argument_register r)) → r < 14
held_low n zero h = omega arith
held_low n (suc zero) h = omega arith
held_low n (suc (suc zero)) h = omega arith
held_low n (suc (suc (suc zero))) h = omega arith
held_low n (suc (suc (suc (suc zero)))) h = omega arith
held_low n (suc (suc (suc (suc (suc zero))))) h = omega arith
held_low n (suc (suc (suc (suc (suc (suc zero)))))) h = omega arith
held_low n (suc (suc (suc (suc (suc (suc (suc zero))))))) h = omega arith
held_low n (suc (suc (suc (suc (suc (suc (suc (suc zero)))))))) h = omega arith
held_low n (suc (suc (suc (suc (suc (suc (suc (suc (suc zero))))))))) h = omega arith
held_low n (suc (suc (suc (suc (suc (suc (suc (suc (suc (suc zero)))))))))) h = omega arith
held_low n (suc (suc (suc (suc (suc (suc (suc (suc (suc (suc (suc zero))))))))))) h = omega arith
held_low n (suc (suc (suc (suc (suc (suc (suc (suc (suc (suc (suc (suc zero)))))))))))) h = omega arith
held_low n (suc (suc (suc (suc (suc (suc (suc (suc (suc (suc (suc (suc (suc zero))))))))))))) h = omega arith
held_low n (suc (suc (suc (suc (suc (suc (suc (suc (suc (suc (suc (suc (suc (suc r)))))))))))))) h = absurd (omega (arith, h.0))

get_before : (xs : List Place) (y : Place) (v : ℕ) → v < length xs → place_at (xs ++ y ∷ []) v ≡ place_at xs v
get_before [] y v h = absurd (omega (arith, h))
get_before (x ∷ xs) y zero h = refl
get_before (x ∷ xs) y (suc v) h = get_before xs y v (omega (arith, h))

get_last : (xs : List Place) (y : Place) → place_at (xs ++ y ∷ []) (length xs) ≡ y
get_last [] y = refl
get_last (x ∷ xs) y = get_last xs y

-- one place more
pub places_more :
    (spot : ℕ → Place) (old new : List Place) (at : ℕ) (p : Place) → length old ≡ at → ((v : ℕ) → v < at → place_at old v ≡ spot v) → new ≡ old ++ p ∷ []
    → p ≡ spot at → (v : ℕ) → v < at + 1 → place_at new v ≡ spot v
places_more spot old new at p count all e is v h =
    elim (below_or_not v at) [
      | inl low ↦ ap (λ ps. place_at ps v) e ∙ (get_before old p v (omega (arith, low, count)) ∙ all v low)
      | inr beyond ↦
          (let here : v ≡ at = omega (arith, h, beyond) in
          let last : v ≡ length old = omega (arith, here, count) in
          ap (λ ps. place_at ps v) e ∙ (ap (place_at (old ++ p ∷ [])) last ∙ (get_last old p ∙ (is ∙ ap spot (sym here)))))
    ]

beyond_places : (ps : List Place) (v : ℕ) → length ps ≤ v → place_at ps v ≡ no_target
beyond_places [] v h = refl
beyond_places (p ∷ ps) zero h = absurd (omega (arith, h))
beyond_places (p ∷ ps) (suc v) h = beyond_places ps v (omega (arith, h))

-- the places of all names
pub all_places :
    (constants : List (Option ℕ)) (spots : List (Option Spot)) (places : List Place) → length places ≡ length spots → length constants ≡ length spots
    → ((v : ℕ) → v < length spots → place_at places v ≡ place_in constants spots v) → (v : ℕ) → place_at places v ≡ place_in constants spots v
all_places constants spots places count long all v =
    elim (below_or_not v (length spots)) [
      | inl low ↦ all v low
      | inr beyond ↦
          beyond_places places v (omega (arith, count, beyond))
          ∙ sym (ap (λ o. place_chosen o (get_or spots v None)) (beyond_none constants v (omega (arith, long, beyond))) ∙ ap place_of (beyond_none spots v beyond))
    ]

-- one parameter more
pub parameter_more :
    (spot : ℕ → Place) (enters : ℕ → Bool) (from count v : ℕ) → v ≡ from + count
    → parameter_places spot enters from (count + 1) ≡ parameter_places spot enters from count ++ (if enters v then spot v else no_target) ∷ []
parameter_more spot enters from zero v e =
    let same : from ≡ v = omega (arith, e) in
    ap (λ k. (if enters k then spot k else no_target) ∷ []) same
parameter_more spot enters from (suc count) v e =
    let one : suc count + 1 ≡ suc (count + 1) = omega arith in
    ap (λ n. parameter_places spot enters from n) one ∙ ap (λ k. (if enters from then spot from else no_target) ∷ k) (parameter_more spot enters (from + 1) count v (omega (arith, e)))

-- names that stand well in places that were chosen stand so in a list of these
pub stand_in_places :
    (p : LineProcedure) (a : RegisterPlaces) (named : List Line) (owner : ℕ → ℕ) (names : ℕ) (landings : List (List ℕ)) (spot : ℕ → Place)
    (parts : List (List Interval)) (begins : ℕ → Bool) (slots : ℕ) (barriers : List Barrier) (clear : Bool)
    (w : ChosenWell named p.parameters (landings_in landings) spot (enters_in parts) begins slots barriers names clear)
    → NamesStand named p.registers owner names spot w.alive → AreNamings owner names p.lines named → landings ≡ line_landings 0 [] p.lines → a.lines ≡ named
    → ((v : ℕ) → place_at a.places v ≡ spot v) → a.parameters ≡ parameter_places (place_at a.places) (enters_in parts) 0 p.parameters → a.slots ≡ slots
    → StandInPlaces p a
stand_in_places p a named owner names landings spot parts begins slots barriers clear w owned are told lines_are places_are entry slots_are =
    let places : place_at a.places ≡ spot = fun_ext places_are in
    record {
      owner = owner;
      names = names;
      alive = w.alive;
      enters = enters_in parts;
      named = subst (λ ls. AreNamings owner names p.lines ls) (sym lines_are) are;
      owned =
          subst (λ ls. NamesStand ls p.registers owner names (place_at a.places) w.alive) (sym lines_are)
          (subst (λ f. NamesStand named p.registers owner names f w.alive) (sym places) owned);
      stand =
          subst (λ ls. AllStand ls p.parameters (landings_in (line_landings 0 [] p.lines)) (place_at a.places) w.alive (enters_in parts) a.slots) (sym lines_are)
          (subst (λ n. AllStand named p.parameters (landings_in (line_landings 0 [] p.lines)) (place_at a.places) w.alive (enters_in parts) n) (sym slots_are)
          (subst (λ f. AllStand named p.parameters (landings_in (line_landings 0 [] p.lines)) f w.alive (enters_in parts) slots) (sym places)
          (subst (λ t. AllStand named p.parameters (landings_in t) spot w.alive (enters_in parts) slots) told w.stand)));
      entry = entry;
    }

pub parameter_listed :
    (spot : ℕ → Place) (enters : ℕ → Bool) (v : ℕ) (list new : List Place) (place : Place) → new ≡ list ++ place ∷ [] → place ≡ (if enters v then spot v else no_target)
    → list ≡ parameter_places spot enters 0 v → new ≡ parameter_places spot enters 0 (v + 1)
parameter_listed spot enters v list new place e is h =
    e ∙ ap (λ p. list ++ p ∷ []) is ∙ ap (λ k. k ++ (if enters v then spot v else no_target) ∷ []) h ∙ sym (parameter_more spot enters 0 v v (omega arith))

-- and in slots for the reasons for which they were put there
pub for_reasons :
    (p : LineProcedure) (a : RegisterPlaces) (lines : List Line) (owners : List ℕ) (table : List (List ℕ)) (constants : List (Option ℕ))
    (lives : List (Option Interval)) (parts : List (List Interval)) (spots : List (Option Spot)) → a.lines ≡ lines → table ≡ line_landings 0 [] p.lines
    → AreNamings (owner_in owners) (length owners) p.lines lines
    → ((v : ℕ) → place_at a.places v ≡ place_in constants spots v)
    → AreLives (steps_from (landings_in table) 0 lines) (length owners) lives
    → AreSlotsWanted lines (landings_in table) p.parameters owners constants lives parts spots
    → (AreStructured (steps_from (landings_in table) 0 lines) → AreTight (steps_from (landings_in table) 0 lines) lives) → StandInSlotsForReasons p a
for_reasons p a lines owners table constants lives parts spots same told named placed are_lives wanted tight = record {
  owners = owners;
  constants = constants;
  lives = lives;
  parts = parts;
  spots = spots;
  named = subst (λ (ls : List Line). AreNamings (owner_in owners) (length owners) p.lines ls) (sym same) named;
  placed = placed;
  are_lives =
      subst (λ (t : List (List ℕ)). AreLives (steps_from (landings_in t) 0 a.lines) (length owners) lives) told
      (subst (λ (ls : List Line). AreLives (steps_from (landings_in table) 0 ls) (length owners) lives) (sym same) are_lives);
  wanted =
      subst (λ (t : List (List ℕ)). AreSlotsWanted a.lines (landings_in t) p.parameters owners constants lives parts spots) told
      (subst (λ (ls : List Line). AreSlotsWanted ls (landings_in table) p.parameters owners constants lives parts spots) (sym same) wanted);
  tight =
      subst (λ (t : List (List ℕ)). AreStructured (steps_from (landings_in t) 0 a.lines) → AreTight (steps_from (landings_in t) 0 a.lines) lives) told
      (subst (λ (ls : List Line). AreStructured (steps_from (landings_in table) 0 ls) → AreTight (steps_from (landings_in table) 0 ls) lives) (sym same) tight);
}
