-- What is alive along paths forwards, or at the head of a loop around, goes along with lines whose loops lie one in another.
use Rattle.std.proofs.Common.{◌≡◌, ◌≢◌, ℕ, zero, suc, ◌+◌, ◌-◌, ◌<◌, ◌≤◌, Bool, true, false, ◌&&◌, ◌||◌, List, [], ◌∷◌, length, get_or, drop, Option, None, Some, refl, sym, ap, subst, ◌∙◌, arith, eqb-true, inl, inr}
use borrow.Author.Tests.{leb-true, le-leb, ltb-true, ltb-false, lt-ltb}
use Rattle.std.specs.Prelude.{◌==◌, ◌⊎◌, slice_get, slice_index, not, nat_lt, nat_le}
use Rattle.std.proofs.lemmas.List.{get_or-drop}
use Rattle.mid_lines.proofs.Conjunctions.{front_true, back_true, both_true}
use Rattle.back_liveness.specs.declared.step.Step.{Step}
use Rattle.back_liveness.specs.Liveness.{is_read, goes_aside, by_read, behind, aside, GoesAlong, LawOfAlive}
use Rattle.back_liveness.specs.Ahead.{is_written, alive_before, alive_from, alive_ahead, any_below, alive_around}
use Rattle.back_liveness.specs.Heads.{AreHeads, AreNested}
use Rattle.back_liveness.proofs.Lists.{where_any, or_back, same_or_other}
use Rattle.back_liveness.proofs.Forwards.{or_front, not_false}

-- the mark of a line is made of the marks behind it
mark_made :
    (v at : ℕ) (last : List Step) (k : ℕ) (s : Step) → slice_get last k ≡ Some s
    → get_or (alive_from v at last) k false ≡ alive_before v (at + k) s (drop (suc k) (alive_from v at last))
mark_made v at [] k s h = absurd (cc h)
mark_made v at (x ∷ last) zero s h =
    let e : at ≡ at + 0 = omega arith in
    let q : x ≡ s = cc h in
    ap (λ y. alive_before v at y (alive_from v (at + 1) last)) q ∙ ap (λ n. alive_before v n s (alive_from v (at + 1) last)) e
mark_made v at (x ∷ last) (suc k) s h =
    let e : at + 1 + k ≡ at + suc k = omega arith in
    mark_made v (at + 1) last k s h ∙ ap (λ n. alive_before v n s (drop (suc k) (alive_from v (at + 1) last))) e

pub there_below : {X : Type 0} (xs : List X) (k : ℕ) (x : X) → slice_get xs k ≡ Some x → k < length xs
there_below [] k x h = absurd (cc h)
there_below (y ∷ xs) zero x h = omega arith
there_below (y ∷ xs) (suc k) x h = let more = there_below xs k x h in omega (arith, more)

written_not : (o : Option ℕ) (v : ℕ) → o ≢ Some v → is_written o v ≡ false
written_not None v ne = refl
written_not (Some r) v ne = by (r == v) refl
  where
    by : (b : Bool) → (r == v) ≡ b → (r == v) ≡ false
    by true e = absurd (ne (ap Some (eqb-true r v e)))
    by false e = e

pub below_or_not : (a b : ℕ) → (a < b) ⊎ (b ≤ a)
below_or_not a b = by (nat_lt a b) refl
  where
    by : (c : Bool) → nat_lt a b ≡ c → (a < b) ⊎ (b ≤ a)
    by true e = inl (ltb-true a b e)
    by false e = inr (ltb-false a b e)

module _ (steps : List Step) (v : ℕ) where
  made : (k : ℕ) (s : Step) → slice_get steps k ≡ Some s → alive_before v k s (drop (suc k) (alive_from v 0 steps)) ≡ true → alive_ahead steps v k ≡ true
  unfolding alive_ahead
  made k s h e =
      let z : 0 + k ≡ k = omega arith in
      mark_made v 0 steps k s h ∙ (ap (λ n. alive_before v n s (drop (suc k) (alive_from v 0 steps))) z ∙ e)

  later : (k j : ℕ) → alive_ahead steps v (suc k + j) ≡ true → get_or (drop (suc k) (alive_from v 0 steps)) j false ≡ true
  unfolding alive_ahead
  later k j h = get_or-drop (suc k) (alive_from v 0 steps) j false ∙ h

  ahead_reads : (k : ℕ) (s : Step) → slice_get steps k ≡ Some s → is_read s v ≡ true → alive_ahead steps v k ≡ true
  ahead_reads k s h r = made k s h (or_front (is_read s v) _ r)

  ahead_behind :
      (k : ℕ) (s : Step) → slice_get steps k ≡ Some s → s.falls ≡ true → s.written ≢ Some v → alive_ahead steps v (k + 1) ≡ true
      → alive_ahead steps v k ≡ true
  ahead_behind k s h f w next =
      let e : k + 1 ≡ suc k + 0 = omega arith in
      let l = later k 0 (subst (λ n. alive_ahead steps v n ≡ true) e next) in
      made k s h (or_back (is_read s v) _ (or_front (s.falls && _) _
      (both_true s.falls _ f (both_true (not (is_written s.written v)) _ (not_false (is_written s.written v) (written_not s.written v w)) l))))

  ahead_aside :
      (k t : ℕ) (s : Step) → slice_get steps k ≡ Some s → goes_aside s t ≡ true → k < t → alive_ahead steps v t ≡ true → alive_ahead steps v k ≡ true
  ahead_aside k t s h a far next =
      let e : t ≡ suc k + (t - (k + 1)) = omega (arith, far) in
      let l = later k (t - (k + 1)) (subst (λ n. alive_ahead steps v n ≡ true) e next) in
      made k s h (or_back (is_read s v) _ (or_back (s.falls && _) _
      (where_any (λ n. nat_lt k n && get_or (drop (suc k) (alive_from v 0 steps)) (n - (k + 1)) false) t s.aside a
      (both_true (nat_lt k t) _ (lt-ltb k t far) l))))

found_below : (n : ℕ) (p : ℕ → Bool) → any_below n p ≡ true → (k : ℕ) × (k < n) × (p k ≡ true)
found_below zero p h = absurd (cc h)
found_below (suc n) p h = by (p n) refl (found_below n p)
  where
    by : (b : Bool) → p n ≡ b → (any_below n p ≡ true → (k : ℕ) × (k < n) × (p k ≡ true)) → (k : ℕ) × (k < suc n) × (p k ≡ true)
    by true e more = (n, omega arith, e)
    by false e more = let m = more (subst (λ b. (b || any_below n p) ≡ true) e h) in (m.0, omega (arith, m.1), m.2)

there_is : (n : ℕ) (p : ℕ → Bool) (k : ℕ) → k < n → p k ≡ true → any_below n p ≡ true
there_is zero p k h e = absurd (omega (arith, h))
there_is (suc n) p k h e = by (there_is n p k) (same_or_other k n)
  where
    by : (k < n → p k ≡ true → any_below n p ≡ true) → (k ≡ n) ⊎ (k ≢ n) → (p n || any_below n p) ≡ true
    by more (inl q) = or_front (p n) _ (ap p (sym q) ∙ e)
    by more (inr ne) = or_back (p n) _ (more (omega (arith, ne, h)) e)

-- the head of a loop around a line, at which the register is alive
pub record IsAround (steps : List Step) (latest : List ℕ) (v line : ℕ) : Type 0 where
  pub head : ℕ
  pub before : head ≤ line
  pub back : line ≤ slice_index latest head
  pub ahead : alive_ahead steps v head ≡ true

pub around_found : (steps : List Step) (latest : List ℕ) (v line : ℕ) → alive_around steps latest v line ≡ true → IsAround steps latest v line
unfolding alive_around
around_found steps latest v line h =
    let f = found_below (line + 1) (λ h. nat_le line (slice_index latest h) && alive_ahead steps v h) h in
    let a = front_true (nat_le line (slice_index latest f.0)) _ f.2 in
    record {
      head = f.0;
      before = omega (arith, f.1);
      back = leb-true line (slice_index latest f.0) a;
      ahead = back_true (nat_le line (slice_index latest f.0)) _ f.2;
    }

around_there : (steps : List Step) (latest : List ℕ) (v line : ℕ) → IsAround steps latest v line → alive_around steps latest v line ≡ true
unfolding alive_around
around_there steps latest v line i =
    there_is (line + 1) (λ h. nat_le line (slice_index latest h) && alive_ahead steps v h) i.head (omega (arith, i.before))
    (both_true (nat_le line (slice_index latest i.head)) _ (le-leb line (slice_index latest i.head) i.back) i.ahead)

module _ (steps : List Step) (earliest latest : List ℕ) (heads : AreHeads steps earliest latest) (nested : AreNested earliest latest) where
  own : (v line : ℕ) → line ≤ length steps → alive_ahead steps v line ≡ true → IsAround steps latest v line
  own v line h a = record { head = line; before = omega arith; back = (heads.own line h).1; ahead = a }

  around_behind :
      (v line : ℕ) (s : Step) → slice_get steps line ≡ Some s → s.falls ≡ true → s.written ≢ Some v → IsAround steps latest v (line + 1)
      → IsAround steps latest v line
  around_behind v line s h f w i =
      elim (same_or_other i.head (line + 1)) [
        | inl e ↦
            own v line (omega (arith, there_below steps line s h))
            (ahead_behind steps v line s h f w (subst (λ n. alive_ahead steps v n ≡ true) e i.ahead))
        | inr ne ↦ record { head = i.head; before = omega (arith, i.before, ne); back = omega (arith, i.back); ahead = i.ahead }
      ]

  around_aside :
      (v line t : ℕ) (s : Step) → slice_get steps line ≡ Some s → goes_aside s t ≡ true → IsAround steps latest v t → IsAround steps latest v line
  around_aside v line t s h a i =
      let far : t ≤ length steps = omega (arith, i.back, heads.within i.head) in
      let b = heads.sources line t s (there_below steps line s h) h a far in
      elim (same_or_other i.head t) [
        | inl e ↦
            elim (below_or_not line t) [
              | inl below ↦
                  own v line (omega (arith, there_below steps line s h))
                  (ahead_aside steps v line t s h a below (subst (λ n. alive_ahead steps v n ≡ true) e i.ahead))
              | inr above ↦
                  record {
                    head = i.head;
                    before = omega (arith, e, above);
                    back = subst (λ n. line ≤ slice_index latest n) (sym e) b.1;
                    ahead = i.ahead;
                  }
            ]
        | inr ne ↦
            (let n = nested i.head t (omega (arith, i.before, ne)) i.back in
            record { head = i.head; before = omega (arith, n.0, b.0); back = omega (arith, n.1, b.1); ahead = i.ahead })
      ]

  pub goes_along : GoesAlong steps (alive_around steps latest)
  goes_along = record {
    reads = λ v line s h r.
        around_there steps latest v line (own v line (omega (arith, there_below steps line s h)) (ahead_reads steps v line s h r));
    behind = λ v line s h f w a.
        around_there steps latest v line (around_behind v line s h f w (around_found steps latest v (line + 1) a));
    aside = λ v line t s h g a. around_there steps latest v line (around_aside v line t s h g (around_found steps latest v t a));
  }

-- a register is alive only where a test that goes along tells it
pub law_of_alive : LawOfAlive
law_of_alive steps test g v line (by_read _ s h r) = g.reads v line s h r
law_of_alive steps test g v line (behind _ s h f w next) = g.behind v line s h f w (law_of_alive steps test g v (line + 1) next)
law_of_alive steps test g v line (aside _ to s h a next) = g.aside v line to s h a (law_of_alive steps test g v to next)
