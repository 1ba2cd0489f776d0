-- Arguments in order, one more; and registers that are left as they are.
use Rattle.std.proofs.Common.{◌≡◌, ◌≤◌, ℕ, zero, suc, ◌+◌, ◌-◌, ◌<◌, Bool, true, false, List, [], ◌∷◌, length, map, take, Some, refl, sym, ap, ◌∙◌, arith}
use Rattle.std.specs.Prelude.{◌==◌, ◌&&◌, not, slice_get, slice_index}
use Rattle.std.proofs.lemmas.Bool.Decides.{nat_tests}
use Rattle.back_places.specs.declared.place.Place.{Place}
use Rattle.back_places.specs.declared.place.Place.TheVariants.{InRegister, InSlot, AsConstant}
use Rattle.back_places.specs.Places.{argument_register, value_registers}
use Rattle.back_places.specs.Passing.{is_other, are_others, are_in_order}
use Rattle.back_allocation.specs.Places.{place_at}
use Rattle.back_emit.specs.InOrder.{is_unwritten}

and_true : (a : Bool) → (a && true) ≡ a
and_true true = refl
and_true false = refl

and_again : (a : Bool) → (a && a) ≡ a
and_again true = refl
and_again false = refl

and_assoc : (a b c : Bool) → (a && (b && c)) ≡ ((a && b) && c)
and_assoc true b c = refl
and_assoc false b c = refl

and_swapped : (a o b u : Bool) → ((a && o) && (b && u)) ≡ ((a && b) && (o && u))
and_swapped false o b u = refl
and_swapped true false true u = refl
and_swapped true false false u = refl
and_swapped true true b u = refl

module _ (places : List Place) where
  others_next :
      (r i n v : ℕ) (vs : List ℕ) → n ≡ i + 1 → slice_get vs i ≡ Some v
      → are_others r (map (place_at places) (take n vs)) ≡ (are_others r (map (place_at places) (take i vs)) && is_other r (place_at places v))
  others_next r i n v [] e h = absurd (cc h)
  others_next r i zero v (w ∷ ws) e h = absurd (omega (arith, e))
  others_next r zero (suc n) v (w ∷ ws) e h =
      let none : n ≡ 0 = omega (arith, e) in
      let same : w ≡ v = cc h in
      ap (λ k. is_other r (place_at places w) && are_others r (map (place_at places) (take k ws))) none ∙ and_true (is_other r (place_at places w))
      ∙ ap (λ k. is_other r (place_at places k)) same
  others_next r (suc i) (suc n) v (w ∷ ws) e h =
      ap (λ b. is_other r (place_at places w) && b) (others_next r i n v ws (omega (arith, e)) h)
      ∙ and_assoc (is_other r (place_at places w)) (are_others r (map (place_at places) (take i ws))) (is_other r (place_at places v))

  order_next :
      (from i n v : ℕ) (vs : List ℕ) → n ≡ i + 1 → slice_get vs i ≡ Some v
      → are_in_order from (map (place_at places) (take n vs)) ≡ (are_in_order from (map (place_at places) (take i vs)) && is_unwritten from i (place_at places v))
  order_next from i n v [] e h = absurd (cc h)
  order_next from i zero v (w ∷ ws) e h = absurd (omega (arith, e))
  order_next from zero (suc n) v (w ∷ ws) e h =
      let none : n ≡ 0 = omega (arith, e) in
      ap (λ k. are_others (argument_register from) (map (place_at places) (take k ws)) && are_in_order (from + 1) (map (place_at places) (take k ws))) none
  order_next from (suc i) (suc n) v (w ∷ ws) e h =
      let r = argument_register from in
      let all = map (place_at places) (take n ws) in
      let some = map (place_at places) (take i ws) in
      let less : n ≡ i + 1 = omega (arith, e) in
      ap (λ b. b && are_in_order (from + 1) all) (others_next r i n v ws less h)
      ∙ ap (λ b. (are_others r some && is_other r (place_at places v)) && b) (order_next (from + 1) i n v ws less h)
      ∙ and_swapped (are_others r some) (is_other r (place_at places v)) (are_in_order (from + 1) some) (is_unwritten (from + 1) i (place_at places v))

  pub order_more :
      (i v : ℕ) (vs : List ℕ) (p : Place) (ordered unwritten : Bool) → p ≡ place_at places v → unwritten ≡ is_unwritten 0 i p
      → ordered ≡ are_in_order 0 (map (place_at places) (take i vs)) → slice_get vs i ≡ Some v
      → (ordered && unwritten) ≡ are_in_order 0 (map (place_at places) (take (i + 1) vs))
  order_more i v vs p ordered unwritten g u o h =
      ap (λ b. ordered && b) (u ∙ ap (is_unwritten 0 i) g) ∙ ap (λ b. b && is_unwritten 0 i (place_at places v)) o
      ∙ sym (order_next 0 i (i + 1) v vs refl h)

-- slots and constants are in no register

pub slot_unwritten : (from count k : ℕ) → true ≡ is_unwritten from count (InSlot k)
slot_unwritten from zero k = refl
slot_unwritten from (suc count) k = slot_unwritten (from + 1) count k

pub constant_unwritten : (from count w : ℕ) → true ≡ is_unwritten from count (AsConstant w)
constant_unwritten from zero w = refl
constant_unwritten from (suc count) w = constant_unwritten (from + 1) count w

-- a register, from the first arguments on

one_compared :
    (i count r : ℕ) → i < count
    → is_unwritten i (count - i) (InRegister r) ≡ (not (r == argument_register i) && is_unwritten (i + 1) (count - (i + 1)) (InRegister r))
one_compared i count r below =
    let here : count - i ≡ suc (count - (i + 1)) = omega (arith, below) in
    ap (λ n. is_unwritten i n (InRegister r)) here

beyond : (xs : List ℕ) (i : ℕ) → length xs ≤ i → slice_index xs i ≡ 0
beyond [] zero h = refl
beyond [] (suc i) h = refl
beyond (x ∷ xs) zero h = absurd (omega (arith, h))
beyond (x ∷ xs) (suc i) h = beyond xs i (omega (arith, h))

-- behind the arguments that have registers

others_unwritten : (i n r : ℕ) → 14 ≤ i → is_unwritten i (suc n) (InRegister r) ≡ not (r == 0)
others_unwritten i zero r above = and_true (not (r == argument_register i)) ∙ ap (λ q. not (r == q)) (beyond value_registers i above)
others_unwritten i (suc n) r above =
    ap (λ q. not (r == q) && is_unwritten (i + 1) (suc n) (InRegister r)) (beyond value_registers i above)
    ∙ ap (λ b. not (r == 0) && b) (others_unwritten (i + 1) n r (omega (arith, above))) ∙ and_again (not (r == 0))

many_unwritten : (count r : ℕ) → 14 < count → is_unwritten 14 (count - 14) (InRegister r) ≡ not (r == 0)
many_unwritten count r above =
    let more : count - 14 ≡ suc (count - 15) = omega (arith, above) in
    ap (λ n. is_unwritten 14 n (InRegister r)) more ∙ others_unwritten 14 (count - 15) r (omega arith)

pub at_others :
    (i count r : ℕ) → i ≡ 14 → i < count → is_unwritten i (count - i) (InRegister r) ≡ is_unwritten 0 count (InRegister r)
    → not (r == 0) ≡ is_unwritten 0 count (InRegister r)
at_others i count r e below h =
    sym (many_unwritten count r (omega (arith, e, below))) ∙ ap (λ k. is_unwritten k (count - k) (InRegister r)) (sym e) ∙ h

-- one argument more, in another register

differs : (r q : ℕ) → (q ≡ r → ⊥) → not (r == q) ≡ true
differs r q h = grind (arith, nat_tests, h)

pub unwritten_more :
    (i count r q : ℕ) → i < count → i ≤ 14 → (i ≡ 14 → ⊥) → q ≡ argument_register i → (q ≡ r → ⊥)
    → is_unwritten i (count - i) (InRegister r) ≡ is_unwritten 0 count (InRegister r)
    → (i + 1 ≤ 14) × (is_unwritten (i + 1) (count - (i + 1)) (InRegister r) ≡ is_unwritten 0 count (InRegister r))
unwritten_more i count r q below few short is other h = (
  omega (arith, few, short),
  sym (ap (λ b. b && is_unwritten (i + 1) (count - (i + 1)) (InRegister r)) (ap (λ k. not (r == k)) (sym is) ∙ differs r q other))
      ∙ sym (one_compared i count r below) ∙ h,
)
