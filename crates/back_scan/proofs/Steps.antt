-- One register more has its spot, and the scan comes to a later line.
use Rattle.std.proofs.Common.{◌≡◌, ◌≢◌, ℕ, ◌<◌, ◌≤◌, Bool, true, false, List, [], length, get_or, set, Option, None, Some, refl, sym, ap, subst, ◌∙◌, arith, inl, inr, get_or-set_other, get_or-set_same}
use Rattle.std.specs.Prelude.{◌⊎◌, nat_le}
use Rattle.std.proofs.Math.ListN.{length-set}
use borrow.Author.Tests.{leb-true, leb-false}
use Rattle.back_liveness.specs.declared.step.Interval.{Interval}
use Rattle.back_liveness.specs.Liveness.{is_held, IsWithin, IsCovered}
use Rattle.back_liveness.proofs.Lists.{same_or_other}
use Rattle.back_scan.specs.declared.spot.Spot.{Spot}
use Rattle.back_scan.specs.declared.spot.Spot.TheVariants.{Held, Slot}
use Rattle.back_scan.specs.declared.spot.Wish.{Wish}
use Rattle.back_scan.specs.declared.spot.Wish.TheVariants.{Any, Only, InSlot}
use Rattle.back_scan.specs.Spots.{Allows, IsAllowed, spot_of, interval_of, HasHolder, NoneIsLeft}
use Rattle.back_scan.specs.Scanned.{rank, IsTaken, IsFree, IsLater, taken_of, Scanned}
use Rattle.back_scan.specs.declared.windows.Window.{Window}
use Rattle.back_scan.specs.Chosen.{IsChosen, IsSame, IsSpotFor, GoesOn}
use Rattle.back_scan.specs.Windows.{AreOpen, IsOpenFor, AreKept}

-- a place that is free from a line on is not taken there or later
free_not_taken : (t : Option ℕ) (line x : ℕ) → IsFree t line → line ≤ x → IsTaken t x → ⊥
free_not_taken None line x f h k = k
free_not_taken (Some last) line x f h k = omega (arith, f, h, k)

same_spot : (p q : Spot) → Some p ≡ Some q → p ≡ q
same_spot p q h = cc

allowed_below : (wish : Wish) (r : ℕ) → Allows wish r → r < 14
allowed_below Any r h = h
allowed_below (Only q) r h = h.0
allowed_below InSlot r h = absurd h

some_is : (i j : Interval) → Some i ≡ Some j → i ≡ j
some_is i j h = cc

held_of : (p : Spot) (r : ℕ) → rank p ≡ r → r < 14 → p ≡ Held r
held_of (Held q) r e h = ap Held e
held_of (Slot k) r e h = absurd (omega (arith, e, h))

-- the scan at a later line
pub later_line :
    (intervals : List (Option Interval)) (parts : List (List Interval)) (wishes : List Wish) (spots : List (Option Spot)) (taken : List (Option ℕ)) (line next : ℕ)
    → Scanned intervals parts wishes spots taken line → line ≤ next → Scanned intervals parts wishes spots taken next
later_line intervals parts wishes spots taken line next s h = record {
  known = s.known;
  taken_up = s.taken_up;
  apart = s.apart;
  held = λ r x low above t. s.held r x low (omega (arith, above, h)) t;
  allowed = s.allowed;
  full = s.full;
}

-- and with a place more that nothing is in
pub same_taken :
    (intervals : List (Option Interval)) (parts : List (List Interval)) (wishes : List Wish) (spots : List (Option Spot)) (taken more : List (Option ℕ)) (line : ℕ)
    → Scanned intervals parts wishes spots taken line → IsSame taken more → Scanned intervals parts wishes spots more line
same_taken intervals parts wishes spots taken more line s same = record {
  known = λ v p h. (let k = s.known v p h in omega (arith, k, same.more));
  taken_up = λ v p x h c. subst (λ t. IsTaken t x) (sym (same.same (rank p))) (s.taken_up v p x h c);
  apart = s.apart;
  held = λ r x low above t. s.held r x low above (subst (λ o. IsTaken o x) (same.same r) t);
  allowed = s.allowed;
  full = s.full;
}

-- a spot for a register: no other is held in it where the register is; a slot only where all that may be had is taken at the line
pub record IsFound
    (intervals : List (Option Interval)) (parts : List (List Interval)) (spots : List (Option Spot)) (wish : Wish) (taken : List (Option ℕ)) (v line : ℕ) (p : Spot)
    : Type 0 where
  pub known : rank p < length taken
  pub alone : (u x : ℕ) → spot_of spots u ≡ Some p → is_held parts u x ≡ true → is_held parts v x ≡ true → ⊥
  pub allowed : IsAllowed wish p
  pub full : (k r : ℕ) → p ≡ Slot k → Allows wish r → IsTaken (taken_of taken r) line

abbrev Inside : List (Option Interval) → (parts : List (List Interval)) → Type 0
Inside intervals parts = (u x : ℕ) → is_held parts u x ≡ true → IsCovered intervals u x

cover_from : (intervals : List (Option Interval)) (v x : ℕ) (i : Interval) → interval_of intervals v ≡ Some i → IsCovered intervals v x → i.from ≤ x
cover_from intervals v x i e h = (subst (λ o. IsWithin o x) e h).0

-- where all else has ended, and where there are windows
found_ended :
    (intervals : List (Option Interval)) (parts : List (List Interval)) (wishes : List Wish) (spots : List (Option Spot)) (wish : Wish) (taken : List (Option ℕ)) (v : ℕ)
    (i : Interval) (p : Spot) → Scanned intervals parts wishes spots taken i.from → Inside intervals parts → interval_of intervals v ≡ Some i
    → IsChosen wish taken i.from p → IsFound intervals parts spots wish taken v i.from p
found_ended intervals parts wishes spots wish taken v i p s inside entry c = record {
  known = c.known;
  alone = λ u x h a b.
      free_not_taken (taken_of taken (rank p)) i.from x c.free (cover_from intervals v x i entry (inside v x b)) (s.taken_up u p x h (inside u x a));
  allowed = c.allowed;
  full = c.full;
}

found_open :
    (intervals : List (Option Interval)) (parts : List (List Interval)) (spots : List (Option Spot)) (wish : Wish) (taken : List (Option ℕ)) (windows : List Window)
    (v line : ℕ) (p : Spot) → 14 ≤ length taken → AreOpen parts spots windows → IsOpenFor wish windows (get_or parts v []) p
    → IsFound intervals parts spots wish taken v line p
found_open intervals parts spots wish taken windows v line (Held r) room clear fits = record {
  known = (let low = allowed_below wish r fits.0 in omega (arith, low, room));
  alone = λ u x h a b. clear r x u (fits.1 x b) h a;
  allowed = fits.0;
  full = λ k q h a. absurd (cc h);
}
found_open intervals parts spots wish taken windows v line (Slot k) room clear fits = absurd fits

pub found_by :
    (intervals : List (Option Interval)) (parts : List (List Interval)) (wishes : List Wish) (spots : List (Option Spot)) (wish : Wish) (taken : List (Option ℕ))
    (windows : List Window) (v : ℕ) (i : Interval) (ended : Bool) (p : Spot) → Scanned intervals parts wishes spots taken i.from → Inside intervals parts
    → interval_of intervals v ≡ Some i → 14 ≤ length taken → AreOpen parts spots windows → IsSpotFor wish taken windows (get_or parts v []) i.from ended p
    → IsFound intervals parts spots wish taken v i.from p
found_by intervals parts wishes spots wish taken windows v i true p s inside entry room clear c = found_ended intervals parts wishes spots wish taken v i p s inside entry c
found_by intervals parts wishes spots wish taken windows v i false p s inside entry room clear c = found_open intervals parts spots wish taken windows v i.from p room clear c

module _ (intervals : List (Option Interval)) (parts : List (List Interval)) (wishes : List Wish) (spots : List (Option Spot)) (taken : List (Option ℕ)) (v last : ℕ) (i : Interval)
    (p : Spot) (s : Scanned intervals parts wishes spots taken i.from) (entry : interval_of intervals v ≡ Some i) (there : v < length spots)
    (unplaced : spot_of spots v ≡ None) (c : IsFound intervals parts spots (get_or wishes v InSlot) taken v i.from p) (l : IsLater (taken_of taken (rank p)) i.to last) where
  abbrev new : List (Option Spot)
  new = set spots v (Some p)

  abbrev more : List (Option ℕ)
  more = set taken (rank p) (Some last)

  new_same : spot_of new v ≡ Some p
  new_same = get_or-set_same spots v (Some p) None there

  new_other : (u : ℕ) → u ≢ v → spot_of new u ≡ spot_of spots u
  new_other u ne = get_or-set_other spots v u (Some p) None ne

  more_same : taken_of more (rank p) ≡ Some last
  more_same = get_or-set_same taken (rank p) (Some last) None c.known

  more_other : (q : ℕ) → q ≢ rank p → taken_of more q ≡ taken_of taken q
  more_other q ne = get_or-set_other taken (rank p) q (Some last) None ne

  -- a register that had a spot is another one
  other_one : (u : ℕ) (q : Spot) → spot_of spots u ≡ Some q → u ≢ v
  other_one u q h e = absurd (cc (subst (λ n. spot_of spots n ≡ Some q) e h, unplaced))

  pub kept : (u : ℕ) (q : Spot) → spot_of spots u ≡ Some q → spot_of new u ≡ Some q
  kept u q h = new_other u (other_one u q h) ∙ h

  -- the spot of the register itself, and of another one
  own_spot : (u : ℕ) (q : Spot) → u ≡ v → spot_of new u ≡ Some q → q ≡ p
  own_spot u q e h = same_spot q p (sym h ∙ (ap (spot_of new) e ∙ new_same))

  old_spot : (u : ℕ) (q : Spot) → u ≢ v → spot_of new u ≡ Some q → spot_of spots u ≡ Some q
  old_spot u q ne h = sym (new_other u ne) ∙ h

  own_cover : (u x : ℕ) → u ≡ v → IsCovered intervals u x → (i.from ≤ x) × (x ≤ i.to)
  own_cover u x e h = subst (λ o. IsWithin o x) (ap (interval_of intervals) e ∙ entry) h

  known : (u : ℕ) (q : Spot) → spot_of new u ≡ Some q → rank q < length more
  known u q h =
      let e : length more ≡ length taken = length-set taken (rank p) (Some last) in
      elim (same_or_other u v) [
        | inl same ↦ (let r = ap rank (own_spot u q same h) in omega (arith, e, r, c.known))
        | inr ne ↦ (let k = s.known u q (old_spot u q ne h) in omega (arith, e, k))
      ]

  -- what was taken is taken
  still_taken : (q x : ℕ) → IsTaken (taken_of taken q) x → IsTaken (taken_of more q) x
  still_taken q x h =
      elim (same_or_other q (rank p)) [
        | inl e ↦
            subst (λ n. IsTaken (taken_of more n) x) (sym e)
            (subst (λ t. IsTaken t x) (sym more_same) (l.kept x (subst (λ n. IsTaken (taken_of taken n) x) e h)))
        | inr ne ↦ subst (λ t. IsTaken t x) (sym (more_other q ne)) h
      ]

  taken_up : (u : ℕ) (q : Spot) (x : ℕ) → spot_of new u ≡ Some q → IsCovered intervals u x → IsTaken (taken_of more (rank q)) x
  taken_up u q x h k =
      elim (same_or_other u v) [
        | inl e ↦
            (let w = own_cover u x e k in
            let below : x ≤ last = omega (arith, w.1, l.added) in
            subst (λ n. IsTaken (taken_of more (rank n)) x) (sym (own_spot u q e h)) (subst (λ t. IsTaken t x) (sym more_same) below))
        | inr ne ↦ still_taken (rank q) x (s.taken_up u q x (old_spot u q ne h) k)
      ]

  -- no other register is held where the new one is
  not_both : (u : ℕ) (q : Spot) (x : ℕ) → spot_of spots u ≡ Some q → q ≡ p → is_held parts u x ≡ true → is_held parts v x ≡ true → ⊥
  not_both u q x h e k own = c.alone u x (h ∙ ap Some e) k own

  apart :
      (a b : ℕ) (q : Spot) (x : ℕ) → spot_of new a ≡ Some q → spot_of new b ≡ Some q → is_held parts a x ≡ true → is_held parts b x ≡ true → a ≡ b
  apart a b q x h k first second =
      elim (same_or_other a v) [
        | inl e ↦
            elim (same_or_other b v) [
              | inl f ↦ e ∙ sym f
              | inr ne ↦ absurd (not_both b q x (old_spot b q ne k) (own_spot a q e h) second (subst (λ n. is_held parts n x ≡ true) e first))
            ]
        | inr ne ↦
            elim (same_or_other b v) [
              | inl f ↦ absurd (not_both a q x (old_spot a q ne h) (own_spot b q f k) first (subst (λ n. is_held parts n x ≡ true) f second))
              | inr nf ↦ s.apart a b q x (old_spot a q ne h) (old_spot b q nf k) first second
            ]
      ]

  -- holders hold on
  holds : (x r : ℕ) → HasHolder intervals parts spots x r → HasHolder intervals parts new x r
  holds x r h = record { holder = h.holder; stands = kept h.holder (Held r) h.stands; covers = h.covers }

  below_or_above : (a b : ℕ) → (a ≤ b) ⊎ (b < a)
  below_or_above a b = by (nat_le a b) refl
    where
      by : (t : Bool) → nat_le a b ≡ t → (a ≤ b) ⊎ (b < a)
      by true e = inl (leb-true a b e)
      by false e = inr (leb-false a b e)

  held : (r x : ℕ) → r < 14 → i.from ≤ x → IsTaken (taken_of more r) x → HasHolder intervals parts new x r
  held r x low above t =
      elim (same_or_other r (rank p)) [
        | inl e ↦
            (let last_is : x ≤ last = subst (λ o. IsTaken o x) more_same (subst (λ n. IsTaken (taken_of more n) x) e t) in
            elim (below_or_above x i.to) [
              | inl within ↦
                  record {
                    holder = v;
                    stands = new_same ∙ ap Some (held_of p r (sym e) low);
                    covers = subst (λ o. IsWithin o x) (sym entry) (above, within);
                  }
              | inr beyond ↦ holds x r (s.held r x low above (subst (λ n. IsTaken (taken_of taken n) x) (sym e) (l.only x last_is beyond)))
            ])
        | inr ne ↦ holds x r (s.held r x low above (subst (λ o. IsTaken o x) (more_other r ne) t))
      ]

  allowed : (u : ℕ) (q : Spot) → spot_of new u ≡ Some q → IsAllowed (get_or wishes u InSlot) q
  allowed u q h =
      elim (same_or_other u v) [
        | inl e ↦
            subst (λ n. IsAllowed (get_or wishes n InSlot) q) (sym e)
            (subst (IsAllowed (get_or wishes v InSlot)) (sym (own_spot u q e h)) c.allowed)
        | inr ne ↦ s.allowed u q (old_spot u q ne h)
      ]

  same_interval : (j : Interval) (u : ℕ) → u ≡ v → interval_of intervals u ≡ Some j → i.from ≡ j.from
  same_interval j u e h = ap (λ n. n.from) (some_is i j (sym entry ∙ (ap (interval_of intervals) (sym e) ∙ h)))

  full :
      (u k : ℕ) (j : Interval) → spot_of new u ≡ Some (Slot k) → interval_of intervals u ≡ Some j
      → NoneIsLeft intervals parts new (get_or wishes u InSlot) j.from
  full u k j h is r allows =
      elim (same_or_other u v) [
        | inl e ↦
            (let a = subst (λ n. Allows (get_or wishes n InSlot) r) e allows in
            let t = c.full k r (sym (own_spot u (Slot k) e h)) a in
            subst (λ x. HasHolder intervals parts new x r) (same_interval j u e is)
            (holds i.from r (s.held r i.from (allowed_below (get_or wishes v InSlot) r a) (omega arith) t)))
        | inr ne ↦ holds j.from r (s.full u k j (old_spot u (Slot k) ne h) is r allows)
      ]

  pub one_more : Scanned intervals parts wishes new more i.from
  one_more = record { known = known; taken_up = taken_up; apart = apart; held = held; allowed = allowed; full = full }

  pub placed : spot_of new v ≡ Some p
  placed = new_same

-- windows are clear when the register has come to its spot
still_open :
    (intervals : List (Option Interval)) (parts : List (List Interval)) (wishes : List Wish) (spots : List (Option Spot)) (taken : List (Option ℕ)) (windows windows' : List Window)
    (v : ℕ) (i : Interval) (ended : Bool) (p : Spot) (wish : Wish) → Scanned intervals parts wishes spots taken i.from → Inside intervals parts → v < length spots
    → AreOpen parts spots windows → IsSpotFor wish taken windows (get_or parts v []) i.from ended p → AreKept windows windows' p ended (get_or parts v []) i.from
    → AreOpen parts (set spots v (Some p)) windows'
still_open intervals parts wishes spots taken windows windows' v i ended p wish s inside there clear c kept r x u o h held =
    elim (same_or_other u v) [
      | inl e ↦
          kept.apart r x o (same_spot p (Held r) (sym (get_or-set_same spots v (Some p) None there) ∙ (ap (spot_of (set spots v (Some p))) (sym e) ∙ h)))
          (subst (λ n. is_held parts n x ≡ true) e held)
      | inr ne ↦
          (let old : spot_of spots u ≡ Some (Held r) = sym (get_or-set_other spots v u (Some p) None ne) ∙ h in
          elim (kept.were r x o) [
            | inl was ↦ clear r x u was old held
            | inr new ↦ ended_before ended refl c old new.0 new.1 new.2
          ])
    ]
  where
    ended_before :
        (b : Bool) → ended ≡ b → IsSpotFor wish taken windows (get_or parts v []) i.from b p → spot_of spots u ≡ Some (Held r) → ended ≡ true → p ≡ Held r
        → i.from ≤ x → ⊥
    ended_before true e c old is same low =
        free_not_taken (taken_of taken (rank p)) i.from x c.free low
        (subst (λ q. IsTaken (taken_of taken (rank q)) x) (sym same) (s.taken_up u (Held r) x old (inside u x held)))
    ended_before false e c old is same low = absurd (cc (e, is))

-- the scan goes on where a register stands in the spot that is found
pub goes_on :
    (intervals : List (Option Interval)) (parts : List (List Interval)) (wishes : List Wish) (spots spots' : List (Option Spot)) (taken more taken' : List (Option ℕ))
    (windows windows' : List Window) (v : ℕ) (i : Interval) (wish : Wish) (ended : Bool) (p : Spot) → Scanned intervals parts wishes spots taken i.from → Inside intervals parts
    → 14 ≤ length taken → AreOpen parts spots windows → interval_of intervals v ≡ Some i → v < length spots
    → spot_of spots v ≡ None → wish ≡ get_or wishes v InSlot → IsSpotFor wish more windows (get_or parts v []) i.from ended p → IsSame taken more
    → spots' ≡ set spots v (Some p) → (last : ℕ) × (taken' ≡ set more (rank p) (Some last)) × IsLater (taken_of more (rank p)) i.to last
    → AreKept windows windows' p ended (get_or parts v []) i.from → GoesOn intervals parts wishes v i.from spots spots' taken taken' windows'
goes_on intervals parts wishes spots spots' taken more taken' windows windows' v i wish ended p s inside room clear entry there unplaced asks c same e l kept_windows =
    let s1 = same_taken intervals parts wishes spots taken more i.from s same in
    let c0 = found_by intervals parts wishes spots wish more windows v i ended p s1 inside entry (omega (arith, room, same.more)) clear c in
    let c1 = subst (λ w. IsFound intervals parts spots w more v i.from p) asks c0 in
    let e1 = length-set spots v (Some p) in
    let e2 : length taken' ≡ length more = ap length l.1 ∙ length-set more (rank p) (Some l.0) in
    let scanned = one_more intervals parts wishes spots more v l.0 i p s1 entry there unplaced c1 l.2 in
    record {
      scanned = subst (λ x. Scanned intervals parts wishes x taken' i.from) (sym e) (subst (λ x. Scanned intervals parts wishes (set spots v (Some p)) x i.from) (sym l.1) scanned);
      clear = subst (λ x. AreOpen parts x windows') (sym e) (still_open intervals parts wishes spots more windows windows' v i ended p wish s1 inside there clear c kept_windows);
      count = ap length e ∙ e1;
      placed = (p, subst (λ x. spot_of x v ≡ Some p) (sym e) (placed intervals parts wishes spots more v l.0 i p s1 entry there unplaced c1 l.2));
      kept = λ u q h. subst (λ x. spot_of x u ≡ Some q) (sym e) (kept intervals parts wishes spots more v l.0 i p s1 entry there unplaced c1 l.2 u q h);
      room = omega (arith, e2, same.more);
      few = omega (arith, e2, same.few);
    }
