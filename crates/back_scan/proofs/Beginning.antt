-- Before the first entry, and behind the last.
use Rattle.std.proofs.Common.{◌≡◌, ℕ, zero, suc, ◌+◌, ◌-◌, ◌<◌, ◌≤◌, List, [], ◌∷◌, length, get_or, Option, None, Some, ap, subst, ◌∙◌, arith}
use Rattle.std.specs.Prelude.{slice_get}
use Rattle.std.proofs.lemmas.Option.{slice_get-get_or, get_or_from_slice_get}
use Rattle.std.specs.List.Sorted.{IsNonDecreasingBy}
use borrow.Author.Count.{below_more}
use Rattle.back_liveness.specs.declared.step.Interval.{Interval}
use Rattle.back_scan.specs.declared.entries.Entry.{Entry}
use Rattle.back_scan.specs.declared.spot.Spot.{Spot}
use Rattle.back_scan.specs.declared.spot.Spot.TheVariants.{Slot}
use Rattle.back_scan.specs.declared.spot.Wish.{Wish}
use Rattle.back_scan.specs.Spots.{spot_of, interval_of, StandWell}
use Rattle.back_scan.specs.Entries.{AreEntries, begins}
use Rattle.back_scan.specs.Scanned.{IsTaken, taken_of, Scanned}
use Rattle.back_scan.specs.declared.windows.Window.{Window}
use Rattle.back_scan.specs.Chosen.{GoesOn}
use Rattle.back_scan.specs.Run.{HasScanned}
use Rattle.back_scan.proofs.Steps.{later_line}

-- where nothing has a spot and nothing is taken
pub none_scanned :
    (intervals : List (Option Interval)) (parts : List (List Interval)) (wishes : List Wish) (entries : List Entry) (spots : List (Option Spot)) (taken : List (Option ℕ)) (windows : List Window)
    → length spots ≡ length intervals → length taken ≡ 14 → ((v : ℕ) → spot_of spots v ≡ None) → ((q : ℕ) → taken_of taken q ≡ None) → windows ≡ []
    → HasScanned intervals parts wishes entries 0 spots taken windows 0
none_scanned intervals parts wishes entries spots taken windows count places empty free none = record {
  scanned = record {
    known = λ v p h. absurd (cc (h, empty v));
    taken_up = λ v p x h c. absurd (cc (h, empty v));
    apart = λ v u p x h k c d. absurd (cc (h, empty v));
    held = λ r x low above t. absurd (subst (λ o. IsTaken o x) (free r) t);
    allowed = λ v p h. absurd (cc (h, empty v));
    full = λ v k i h e. absurd (cc (h, empty v));
  };
  clear = λ r x v o h held. absurd (cc (h, empty v));
  count = count;
  room = omega (arith, places);
  few = omega (arith, places);
  placed = λ j e h. absurd (omega (arith, h));
  later = λ j e h there. omega arith;
}

interval_below : (intervals : List (Option Interval)) (v : ℕ) (i : Interval) → interval_of intervals v ≡ Some i → v < length intervals
interval_below [] v i h = absurd (cc h)
interval_below (x ∷ intervals) zero i h = omega arith
interval_below (x ∷ intervals) (suc v) i h = let more = interval_below intervals v i h in omega (arith, more)

-- where all have their spots
pub all_scanned :
    (intervals : List (Option Interval)) (parts : List (List Interval)) (wishes : List Wish) (entries : List Entry) (spots : List (Option Spot)) (taken : List (Option ℕ)) (windows : List Window) (line : ℕ)
    → AreEntries intervals (length intervals) entries → HasScanned intervals parts wishes entries (length entries) spots taken windows line
    → StandWell intervals parts wishes spots (length taken - 14)
all_scanned intervals parts wishes entries spots taken windows line are s = record {
  count = s.count;
  all = λ v i h.
      let e : Entry = record { register = v; interval = i } in
      let c = are.all v i (interval_below intervals v i h) h in
      s.placed c.0 e c.1 (slice_get-get_or entries c.0 e c.1 ∙ ap Some c.2);
  apart = s.scanned.apart;
  allowed = s.scanned.allowed;
  full = s.scanned.full;
  within = λ v k h. (let b = s.scanned.known v (Slot k) h in omega (arith, b));
  few = (let a = s.few in let b = are.few in omega (arith, a, b));
}

entry_below : (entries : List Entry) (j : ℕ) (e : Entry) → slice_get entries j ≡ Some e → j < length entries
entry_below [] j e h = absurd (cc h)
entry_below (x ∷ entries) zero e h = omega arith
entry_below (x ∷ entries) (suc j) e h = let more = entry_below entries j e h in omega (arith, more)

-- one entry more
pub entry_more :
    (intervals : List (Option Interval)) (parts : List (List Interval)) (wishes : List Wish) (entries : List Entry) (at : ℕ) (spots new : List (Option Spot))
    (taken more : List (Option ℕ)) (windows windows' : List Window) (line : ℕ) (d : Entry) → at < length entries → IsNonDecreasingBy begins entries
    → HasScanned intervals parts wishes entries at spots taken windows line
    → GoesOn intervals parts wishes (get_or entries at d).register (get_or entries at d).interval.from spots new taken more windows'
    → HasScanned intervals parts wishes entries (at + 1) new more windows' (get_or entries at d).interval.from
entry_more intervals parts wishes entries at spots new taken more windows windows' line d below sorted s g = record {
  scanned = g.scanned;
  clear = g.clear;
  count = g.count ∙ s.count;
  room = (let a = s.room in let b = g.room in omega (arith, a, b));
  few = (let a = s.few in let b = g.few in omega (arith, a, b));
  placed = λ j e h there.
      let P : ℕ → Type 0 = λ k. slice_get entries k ≡ Some e → (p : Spot) × (spot_of new e.register ≡ Some p) in
      below_more P at
      (λ k low is. let old = s.placed k e low is in (old.0, g.kept e.register old.0 old.1))
      (λ is. subst (λ x. (p : Spot) × (spot_of new x.register ≡ Some p)) (get_or_from_slice_get entries at e d is) g.placed)
      j h there;
  later = λ j e h there.
      let low : begins (get_or entries at d) ≤ begins (get_or entries j d) = sorted at j d (omega (arith, h)) (entry_below entries j e there) in
      subst (λ x. begins (get_or entries at d) ≤ begins x) (get_or_from_slice_get entries j e d there) low;
}

pub entry_later :
    (intervals : List (Option Interval)) (parts : List (List Interval)) (wishes : List Wish) (entries : List Entry) (at : ℕ) (spots : List (Option Spot)) (taken : List (Option ℕ))
    (windows : List Window) (line : ℕ) (d : Entry) → at < length entries → HasScanned intervals parts wishes entries at spots taken windows line
    → Scanned intervals parts wishes spots taken (get_or entries at d).interval.from
entry_later intervals parts wishes entries at spots taken windows line d below s =
    later_line intervals parts wishes spots taken line (get_or entries at d).interval.from s.scanned
    (s.later at (get_or entries at d) (omega arith) (slice_get-get_or entries at d below))
