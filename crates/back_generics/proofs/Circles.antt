-- **A circle is found**: in front of it stand so many conses, and it has so many. A step goes from one to the next; the cons where the last steps began
-- is kept, whose number doubles. That the steps are few is said by a bound that falls with each.
use Rattle.std.proofs.Common.{◌≡◌, ◌⊎◌, inl, inr, ℕ, zero, suc, ◌+◌, ◌*◌, ◌<◌, ◌≤◌, refl, arith}
use Rattle.std.proofs.lemmas.Bool.{cases_lt}

-- from one index to the next, behind the last one to the first in the circle
abbrev pub IsNext : (front circle i next : ℕ) → Type 0
IsNext front circle i next = ((next ≡ suc i) × (suc i < front + circle)) ⊎ ((next ≡ front) × (suc i ≡ front + circle))

-- where the steps are at i, and the last ones began at j: so many of them are left, of `steps`
pub data Goes (front circle i j steps left bound : ℕ) : Type 0 where
  in_front : j < front → j + 1 ≡ steps → (i + left ≡ j + steps) ⊎ (front ≤ i) → left + 3 * (front + circle) ≤ bound + 2 * steps → Goes front circle i j steps left bound
  too_few :
      front ≤ j → steps < circle → (i + left ≡ j + steps) ⊎ ((front ≤ i) × (i + circle + left ≡ j + steps)) → left + 3 * (front + circle) ≤ bound + 2 * steps
      → Goes front circle i j steps left bound
  enough :
      front ≤ j → circle ≤ steps → steps ≤ 2 * (front + circle) → steps < left + circle → (i + left ≡ j + steps) ⊎ ((front ≤ i) × (i + circle + left ≡ j + steps)) → circle + left ≤ bound + steps
      → Goes front circle i j steps left bound

apart : (i j : ℕ) → (i ≡ j → ⊥) → (i < j) ⊎ (j < i)
apart i j differ = by (cases_lt i j)
  where
    by : (i < j) ⊎ (j ≤ i) → (i < j) ⊎ (j < i)
    by (inl h) = inl h
    by (inr h) = other (cases_lt j i)
      where
        other : (j < i) ⊎ (i ≤ j) → (i < j) ⊎ (j < i)
        other (inl k) = inr k
        other (inr k) = absurd (differ (omega (arith, h, k)))

-- there is always a step left
pub some_bound : {front circle i j steps left : ℕ} → 1 ≤ circle → 1 ≤ left → left ≤ steps → Goes front circle i j steps left 0 → ⊥
some_bound some one few (in_front a b c d) = omega (arith, one, a, b, d, some)
some_bound some one few (too_few a b c d) = omega (arith, one, a, b, d, some)
some_bound some one few (enough a b c d e f) = omega (arith, one, d, f)

pub few_steps : {front circle i j steps left bound : ℕ} → Goes front circle i j steps left bound → steps ≤ 2 * (front + circle)
few_steps (in_front a b c d) = omega (arith, a, b)
few_steps (too_few a b c d) = omega (arith, b)
few_steps (enough a b c d e f) = c

module _ (front circle : ℕ) (some : 1 ≤ circle) (i j next steps : ℕ) (last : i < front + circle) (began : j < front + circle) (is : IsNext front circle i next) (other : next ≡ j → ⊥) where
  where_in_circle : (left : ℕ) → (i + suc left ≡ j + steps) ⊎ ((front ≤ i) × (i + circle + suc left ≡ j + steps)) → front ≤ j → steps < suc left + circle → (next + left ≡ j + steps) ⊎ ((front ≤ next) × (next + circle + left ≡ j + steps))
  where_in_circle left w low few = by is w
    where
      by :
          IsNext front circle i next → (i + suc left ≡ j + steps) ⊎ ((front ≤ i) × (i + circle + suc left ≡ j + steps)) → (next + left ≡ j + steps) ⊎ ((front ≤ next) × (next + circle + left ≡ j + steps))
      by (inl n) (inl h) = inl (let a = n.0 in omega (arith, a, h))
      by (inl n) (inr h) = inr (let a = n.0 in let b = h.0 in let c = h.1 in (omega (arith, a, b), omega (arith, a, c)))
      by (inr n) (inl h) = inr (let a = n.0 in let b = n.1 in (omega (arith, a), omega (arith, a, b, h)))
      by (inr n) (inr h) = absurd (let b = n.1 in let c = h.1 in omega (arith, b, c, began, few))

  -- the steps go on
  pub goes_on : {left bound : ℕ} → suc (suc left) ≤ steps → Goes front circle i j steps (suc (suc left)) (suc bound) → Goes front circle next j steps (suc left) bound
  goes_on {left} few (in_front a b c d) = in_front a b (by is c) (omega (arith, d))
    where
      by : IsNext front circle i next → (i + suc (suc left) ≡ j + steps) ⊎ (front ≤ i) → (next + suc left ≡ j + steps) ⊎ (front ≤ next)
      by (inl n) (inl h) = inl (let x = n.0 in omega (arith, x, h))
      by (inl n) (inr h) = inr (let x = n.0 in omega (arith, x, h))
      by (inr n) h = inr (let x = n.0 in omega (arith, x))
  goes_on few (too_few a b c d) = too_few a b (where_in_circle _ c a (omega (arith, b))) (omega (arith, d))
  goes_on {left} {bound} few (enough a b c d e f) = enough a b c (by (apart next j other) (where_in_circle _ e a d)) (where_in_circle _ e a d) (omega (arith, f))
    where
      by : (next < j) ⊎ (j < next) → (next + suc left ≡ j + steps) ⊎ ((front ≤ next) × (next + circle + suc left ≡ j + steps)) → steps < suc left + circle
      by (inl x) (inl h) = omega (arith, x, h, few)
      by (inr x) (inl h) = below is
        where
          below : IsNext front circle i next → steps < suc left + circle
          below (inl n) = let p = n.0 in let q = n.1 in omega (arith, p, q, h, a)
          below (inr n) = let p = n.0 in omega (arith, p, x, a)
      by (inl x) (inr h) = let p = h.1 in omega (arith, x, p)
      by (inr x) (inr h) = let p = h.1 in omega (arith, x, p, d, is_there)
        where
          is_there : suc (suc left) + circle ≤ suc (suc left) + circle
          is_there = omega arith

  -- or the next ones begin, twice as many
  pub goes_further : {bound : ℕ} → 1 ≤ steps → Goes front circle i j steps 1 (suc bound) → Goes front circle next next (steps + steps) (steps + steps) bound
  goes_further {bound} one g = by (cases_lt next front) (cases_lt (steps + steps) circle) g
    where
      by : (next < front) ⊎ (front ≤ next) → (steps + steps < circle) ⊎ (circle ≤ steps + steps) → Goes front circle i j steps 1 (suc bound) → Goes front circle next next (steps + steps) (steps + steps) bound
      by (inl low) x (in_front a b c d) = in_front low (whole is c) (inl refl) (omega (arith, d))
        where
          whole : IsNext front circle i next → (i + 1 ≡ j + steps) ⊎ (front ≤ i) → next + 1 ≡ steps + steps
          whole (inl n) (inl h) = let p = n.0 in omega (arith, p, h, b)
          whole (inl n) (inr h) = absurd (let p = n.0 in omega (arith, p, h, low))
          whole (inr n) h = absurd (let p = n.0 in omega (arith, p, low))
      by (inr high) (inl x) (in_front a b c d) = too_few high x (inl refl) (omega (arith, d))
      by (inr high) (inr x) (in_front a b c d) = enough high x (omega (arith, a, b)) (omega (arith, some)) (inl refl) (omega (arith, d, a, b))
      by y (inl x) (too_few a b c d) = too_few (in_circle (where_in_circle _ c a (omega (arith, b)))) x (inl refl) (omega (arith, d))
        where
          in_circle : (next + 0 ≡ j + steps) ⊎ ((front ≤ next) × (next + circle + 0 ≡ j + steps)) → front ≤ next
          in_circle (inl h) = omega (arith, h, a)
          in_circle (inr h) = h.0
      by y (inr x) (too_few a b c d) = enough (in_circle (where_in_circle _ c a (omega (arith, b)))) x (omega (arith, b)) (omega (arith, some)) (inl refl) (omega (arith, d, b))
        where
          in_circle : (next + 0 ≡ j + steps) ⊎ ((front ≤ next) × (next + circle + 0 ≡ j + steps)) → front ≤ next
          in_circle (inl h) = omega (arith, h, a)
          in_circle (inr h) = h.0
      by y x (enough a b c d e f) = absurd (ended (apart next j other) (where_in_circle _ e a d))
        where
          ended : (next < j) ⊎ (j < next) → (next + 0 ≡ j + steps) ⊎ ((front ≤ next) × (next + circle + 0 ≡ j + steps)) → ⊥
          ended (inl p) (inl h) = omega (arith, p, h)
          ended (inr p) (inl h) = below is
            where
              below : IsNext front circle i next → ⊥
              below (inl n) = let q = n.0 in let r = n.1 in omega (arith, q, r, h, a, b)
              below (inr n) = let q = n.0 in omega (arith, q, p, a)
          ended (inl p) (inr h) = let q = h.1 in omega (arith, p, q, b, d)
          ended (inr p) (inr h) = let q = h.1 in omega (arith, p, q, d)

-- where they begin, three steps for each cons are enough
pub begins_to_go : (front circle : ℕ) → 1 ≤ circle → Goes front circle 0 0 1 1 (3 * (front + circle))
begins_to_go zero circle some = by (cases_lt 1 circle)
  where
    by : (1 < circle) ⊎ (circle ≤ 1) → Goes 0 circle 0 0 1 1 (3 * (0 + circle))
    by (inl h) = too_few (omega arith) h (inl refl) (omega arith)
    by (inr h) = enough (omega arith) h (omega (arith, some)) (omega (arith, some)) (inl refl) (omega (arith, some))
begins_to_go (suc n) circle some = in_front (omega arith) refl (inl refl) (omega arith)
