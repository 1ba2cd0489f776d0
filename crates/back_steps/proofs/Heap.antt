-- The heap grows: the words of the memory are as they were, and those that are new are none in the arena.
use Rattle.std.proofs.Common.{inl, inr, ◌≡◌, ℕ, zero, suc, ◌+◌, ◌*◌, ◌/◌, ◌%◌, ◌<◌, ◌≤◌, Bool, true, false, ◌&&◌, List, [], ◌∷◌, length, refl, sym, subst, ◌∙◌, arith, Some}
use Rattle.std.specs.Prelude.{◌⊎◌, ◌||◌, Option, slice_index, slice_get, ◌==◌, nat_le, nat_lt}
use Rattle.std.proofs.lemmas.Bool.Decides.{nat_tests}
use Rattle.rv_machine.specs.Memory.{bytes_of}
use Rattle.rv_machine.specs.Run.{Moment}
use Rattle.mid_code.specs.Arena.{Arena, Block, left, is_lent, is_within, is_in_record, emptied, with_heap}
use Rattle.mid_code.specs.State.{MidState, with_arena}
use Rattle.mid_lines.proofs.Conjunctions.{front_true, back_true}
use Rattle.mid_lines.specs.declared.line.LineProgram.{LineProgram}
use Rattle.back_places.specs.declared.place.Place.{Place}
use Rattle.back_places.specs.Places.{Located}
use Rattle.back_places.specs.Relation.{Machine}
use Rattle.back_emission.specs.Moments.{AreSmall, Ready}
use Rattle.back_emission.proofs.NewBlocks.{length_emptied}

-- what is there was there, and was not emptied
there_before : (i n : ℕ) (ws : List (Option ℕ)) (j w : ℕ) → slice_get (emptied i n ws) j ≡ Some (Some w) → slice_get ws j ≡ Some (Some w)
there_before i n [] j w h = h
there_before zero zero (x ∷ ws) j w h = h
there_before zero (suc n) (x ∷ ws) zero w h = absurd (cc h)
there_before zero (suc n) (x ∷ ws) (suc j) w h = there_before zero n ws j w h
there_before (suc i) n (x ∷ ws) zero w h = h
there_before (suc i) n (x ∷ ws) (suc j) w h = there_before i n ws j w h

not_emptied : (i n : ℕ) (ws : List (Option ℕ)) (j w : ℕ) → slice_get (emptied i n ws) j ≡ Some (Some w) → i ≤ j → j < i + n → ⊥
not_emptied i n [] j w h low high = absurd (cc h)
not_emptied zero zero (x ∷ ws) j w h low high = omega (arith, high)
not_emptied zero (suc n) (x ∷ ws) zero w h low high = absurd (cc h)
not_emptied zero (suc n) (x ∷ ws) (suc j) w h low high = not_emptied zero n ws j w h (omega arith) (omega (arith, high))
not_emptied (suc i) n (x ∷ ws) zero w h low high = omega (arith, low)
not_emptied (suc i) n (x ∷ ws) (suc j) w h low high = not_emptied i n ws j w h (omega (arith, low)) (omega (arith, high))

either_true : (a b : Bool) → (a || b) ≡ true → (a ≡ true) ⊎ (b ≡ true)
either_true true b h = inl refl
either_true false b h = inr h

either_from : (a b : Bool) → (a ≡ true) ⊎ (b ≡ true) → (a || b) ≡ true
either_from true b h = refl
either_from false b h = elim h [ inl k ↦ absurd (cc k) | inr k ↦ k ]

both_from : (a b : Bool) → a ≡ true → b ≡ true → (a && b) ≡ true
both_from true b h k = k
both_from false b h k = absurd (cc h)

-- what is within a longer range is within the shorter one, or behind it
within_longer : (from to to' a : ℕ) → is_within from to' a ≡ true → (is_within from to a ≡ true) ⊎ ((to ≤ a) × (a < to'))
within_longer from to to' a h = by (nat_lt a to) refl
  where
    by : (t : Bool) → nat_lt a to ≡ t → (is_within from to a ≡ true) ⊎ ((to ≤ a) × (a < to'))
    by true e = inl (both_from (nat_le from a) (nat_lt a to) (front_true (nat_le from a) (nat_lt a to') h) e)
    by false e = inr (grind (arith, nat_tests, e), grind (arith, nat_tests, back_true (nat_le from a) (nat_lt a to') h))

-- what is lent with a longer heap was lent, or is new
lent_by_heap :
    (a : Arena) (w i : ℕ) → is_lent (with_heap w a) (4 * i) ≡ true → (is_lent a (4 * i) ≡ true) ⊎ ((a.heap_to ≤ 4 * i) × (4 * i < a.heap_to + 4 * w))
lent_by_heap a w i h = by (emptied (a.heap_to / 4) w a.memory) (length_emptied (a.heap_to / 4) w a.memory) h
  where
    by : (memory : List (Option ℕ)) → length memory ≡ length a.memory
        → ((4 * i % 4 == 0) && (is_within a.laid_from a.laid_to (4 * i) || is_within a.heap_from (a.heap_to + 4 * w) (4 * i) || is_in_record (length memory) a.blocks (4 * i))) ≡ true
        → (is_lent a (4 * i) ≡ true) ⊎ ((a.heap_to ≤ 4 * i) × (4 * i < a.heap_to + 4 * w))
    by memory same k =
        let aligned = front_true (4 * i % 4 == 0) _ k in
        let rest = back_true (4 * i % 4 == 0) _ k in
        elim (either_true (is_within a.laid_from a.laid_to (4 * i) || is_within a.heap_from (a.heap_to + 4 * w) (4 * i)) (is_in_record (length memory) a.blocks (4 * i)) rest) [
          | inl j ↦ elim (either_true (is_within a.laid_from a.laid_to (4 * i)) (is_within a.heap_from (a.heap_to + 4 * w) (4 * i)) j) [
            | inl u ↦ inl (both_from (4 * i % 4 == 0) _ aligned
                (either_from (is_within a.laid_from a.laid_to (4 * i) || is_within a.heap_from a.heap_to (4 * i)) (is_in_record (length a.memory) a.blocks (4 * i))
                (inl (either_from (is_within a.laid_from a.laid_to (4 * i)) (is_within a.heap_from a.heap_to (4 * i)) (inl u)))))
            | inr u ↦ elim (within_longer a.heap_from a.heap_to (a.heap_to + 4 * w) (4 * i) u) [
              | inl v ↦ inl (both_from (4 * i % 4 == 0) _ aligned
                  (either_from (is_within a.laid_from a.laid_to (4 * i) || is_within a.heap_from a.heap_to (4 * i)) (is_in_record (length a.memory) a.blocks (4 * i))
                  (inl (either_from (is_within a.laid_from a.laid_to (4 * i)) (is_within a.heap_from a.heap_to (4 * i)) (inr v)))))
              | inr v ↦ inr v
            ]
          ]
          | inr j ↦ inl (both_from (4 * i % 4 == 0) _ aligned
              (either_from (is_within a.laid_from a.laid_to (4 * i) || is_within a.heap_from a.heap_to (4 * i)) (is_in_record (length a.memory) a.blocks (4 * i))
              (inr (subst (λ size. is_in_record size a.blocks (4 * i) ≡ true) same j))))
        ]

module _ (program : LineProgram) (l : Located) (Fact : (number line register : ℕ) → Place → Type 0) (first : List Block) where
  -- the machine with so many words more in the heap
  pub heap_grown :
      (z : MidState) (words : List ℕ) (w : ℕ) (m m' : Moment) → Machine program l Fact first z words m → w ≤ left z.arena
      → m'.state.memory ≡ bytes_of words → Ready m'.state.registers → AreSmall m'.state.registers
      → slice_index m'.state.registers 2 ≡ slice_index m.state.registers 2 → slice_index m'.state.registers 3 ≡ z.arena.heap_to + 4 * w
      → m'.printed ≡ m.printed → m'.input ≡ m.input
      → Machine program l Fact first (with_arena (with_heap w z.arena) z) words m'
  heap_grown z words w m m' h room memory ready small stack heap printed input =
      let a = z.arena in
      let place = a.heap_to / 4 in
      let same : length (emptied place w a.memory) ≡ length a.memory = length_emptied place w a.memory in
      let f = h.form in
      let four : a.heap_to ≡ 4 * place = let e = f.heap.1 in omega (arith, e) in
      record {
        memory = memory;
        arena = record {
          long = h.arena.long ∙ sym same;
          words_small = h.arena.words_small;
          lent = λ i v lent e. elim (lent_by_heap a w i lent) [
            | inl k ↦ h.arena.lent i v k (there_before place w a.memory i v e)
            | inr k ↦ absurd (not_emptied place w a.memory i v e (omega (arith, k.0, four)) (omega (arith, k.1, four)))
          ];
        };
        code = h.code;
        apart = record { laid_below = h.apart.laid_below; arguments_below = h.apart.arguments_below; heap_above = h.apart.heap_above };
        form = record {
          small = omega (arith, same, f.small);
          fits = omega (arith, same, f.fits);
          heap = (f.heap.0, omega (arith, f.heap.1));
          grown = omega (arith, f.grown);
          below = omega (arith, same, room, f.below);
          laid = f.laid;
        };
        long = ready.long;
        zero_is = ready.zero_is;
        registers_small = small;
        stack = omega (arith, stack, h.stack, same);
        heap = heap;
        printed = printed ∙ h.printed;
        input = input ∙ h.input;
        input_small = h.input_small;
      }
