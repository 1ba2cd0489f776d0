-- A block is laid: the words of the memory are as they were, those of the block are none in the arena, and the stack begins lower.
use Rattle.std.proofs.Common.{inl, inr, ◌≡◌, ℕ, zero, suc, ◌+◌, ◌-◌, ◌*◌, ◌/◌, ◌%◌, ◌<◌, ◌≤◌, Bool, true, false, ◌&&◌, List, [], ◌∷◌, length, refl, sym, ap, subst, ◌∙◌, arith, Some}
use Rattle.std.specs.Prelude.{◌⊎◌, ◌||◌, Option, slice_index, slice_get, ◌==◌, nat_le}
use Rattle.std.proofs.lemmas.Bool.Decides.{nat_tests}
use Rattle.rv_machine.specs.Run.{Moment}
use Rattle.mid_code.specs.Arena.{Arena, Block, words_of, stack_from, begin_of, lent_from, left, is_record, is_lent, is_within, is_in_record, emptied, with_new_block}
use Rattle.mid_code.specs.State.{MidState, with_arena}
use Rattle.mid_lines.proofs.Conjunctions.{front_true, back_true}
use Rattle.mid_lines.specs.declared.line.LineProgram.{LineProgram}
use Rattle.back_places.specs.declared.place.Place.{Place}
use Rattle.back_places.specs.Places.{Located}
use Rattle.back_places.specs.Relation.{Machine}
use Rattle.back_emission.specs.Moments.{AreSmall, Ready}

pub length_emptied : (i n : ℕ) (ws : List (Option ℕ)) → length (emptied i n ws) ≡ length ws
length_emptied i n [] = refl
length_emptied zero zero (w ∷ ws) = refl
length_emptied zero (suc n) (w ∷ ws) = ap suc (length_emptied zero n ws)
length_emptied (suc i) n (w ∷ ws) = ap suc (length_emptied i n ws)

-- what is there was there, and was not emptied
there_before : (i n : ℕ) (ws : List (Option ℕ)) (j w : ℕ) → slice_get (emptied i n ws) j ≡ Some (Some w) → slice_get ws j ≡ Some (Some w)
there_before i n [] j w h = h
there_before zero zero (x ∷ ws) j w h = h
there_before zero (suc n) (x ∷ ws) zero w h = absurd (cc h)
there_before zero (suc n) (x ∷ ws) (suc j) w h = there_before zero n ws j w h
there_before (suc i) n (x ∷ ws) zero w h = h
there_before (suc i) n (x ∷ ws) (suc j) w h = there_before i n ws j w h

not_emptied : (i n : ℕ) (ws : List (Option ℕ)) (j w : ℕ) → slice_get (emptied i n ws) j ≡ Some (Some w) → i ≤ j → j < i + n → ⊥
not_emptied i n [] j w h low high = absurd (cc h)
not_emptied zero zero (x ∷ ws) j w h low high = omega (arith, high)
not_emptied zero (suc n) (x ∷ ws) zero w h low high = absurd (cc h)
not_emptied zero (suc n) (x ∷ ws) (suc j) w h low high = not_emptied zero n ws j w h (omega arith) (omega (arith, high))
not_emptied (suc i) n (x ∷ ws) zero w h low high = omega (arith, low)
not_emptied (suc i) n (x ∷ ws) (suc j) w h low high = not_emptied i n ws j w h (omega (arith, low)) (omega (arith, high))

either_true : (a b : Bool) → (a || b) ≡ true → (a ≡ true) ⊎ (b ≡ true)
either_true true b h = inl refl
either_true false b h = inr h

either_from : (a b : Bool) → (a ≡ true) ⊎ (b ≡ true) → (a || b) ≡ true
either_from true b h = refl
either_from false b h = elim h [ inl k ↦ absurd (cc k) | inr k ↦ k ]

both_from : (a b : Bool) → a ≡ true → b ≡ true → (a && b) ≡ true
both_from true b h k = k
both_from false b h k = absurd (cc h)

-- what is lent beside a new block was lent, or is one of its words
lent_by_new :
    (a : Arena) (b : Block) (i : ℕ) → is_lent (with_new_block b a) (4 * i) ≡ true
    → (is_lent a (4 * i) ≡ true) ⊎ ((length a.memory - words_of (b ∷ a.blocks) ≤ i) × (4 * i < begin_of (length a.memory) a.blocks))
lent_by_new a b i h = by (emptied (begin_of (length a.memory) (b ∷ a.blocks) / 4) b.words a.memory) (length_emptied (begin_of (length a.memory) (b ∷ a.blocks) / 4) b.words a.memory) h
  where
    flat : Bool
    flat = is_within a.laid_from a.laid_to (4 * i) || is_within a.heap_from a.heap_to (4 * i)

    old : Bool → is_in_record (length a.memory) a.blocks (4 * i) ≡ true → (4 * i % 4 == 0) ≡ true → is_lent a (4 * i) ≡ true
    old t k e = both_from (4 * i % 4 == 0) _ e (either_from flat (is_in_record (length a.memory) a.blocks (4 * i)) (inr k))

    by : (memory : List (Option ℕ)) → length memory ≡ length a.memory
        → ((4 * i % 4 == 0) && (flat || is_in_record (length memory) (b ∷ a.blocks) (4 * i))) ≡ true
        → (is_lent a (4 * i) ≡ true) ⊎ ((length a.memory - words_of (b ∷ a.blocks) ≤ i) × (4 * i < begin_of (length a.memory) a.blocks))
    by memory same k =
        let aligned = front_true (4 * i % 4 == 0) _ k in
        let rest = back_true (4 * i % 4 == 0) _ k in
        elim (either_true flat (is_in_record (length memory) (b ∷ a.blocks) (4 * i)) rest) [
          | inl j ↦ inl (both_from (4 * i % 4 == 0) _ aligned (either_from flat (is_in_record (length a.memory) a.blocks (4 * i)) (inl j)))
          | inr j ↦
              let there = subst (λ size. is_in_record size (b ∷ a.blocks) (4 * i) ≡ true) same j in
              elim (either_true (is_record b.kind && is_within (lent_from (length a.memory) (b ∷ a.blocks)) (begin_of (length a.memory) a.blocks) (4 * i)) (is_in_record (length a.memory) a.blocks (4 * i)) there) [
                | inl u ↦
                    let w = back_true (is_record b.kind) _ u in
                    let from : lent_from (length a.memory) (b ∷ a.blocks) ≤ 4 * i = grind (arith, nat_tests, front_true (nat_le (lent_from (length a.memory) (b ∷ a.blocks)) (4 * i)) _ w) in
                    let to : 4 * i < begin_of (length a.memory) a.blocks = grind (arith, nat_tests, back_true (nat_le (lent_from (length a.memory) (b ∷ a.blocks)) (4 * i)) _ w) in
                    inr (omega (arith, from), to)
                | inr u ↦ inl (old true u aligned)
              ]
        ]

module _ (program : LineProgram) (l : Located) (Fact : (number line register : ℕ) → Place → Type 0) (first : List Block) where
  -- a block of so many words that are left is laid; the stack pointer is where it begins
  pub block_laid :
      (z : MidState) (words : List ℕ) (b : Block) (m m' : Moment) → Machine program l Fact first z words m → b.words ≤ left z.arena
      → m'.state.memory ≡ m.state.memory → Ready m'.state.registers → AreSmall m'.state.registers
      → slice_index m'.state.registers 2 + 4 * b.words ≡ slice_index m.state.registers 2 → slice_index m'.state.registers 3 ≡ slice_index m.state.registers 3
      → m'.printed ≡ m.printed → m'.input ≡ m.input
      → Machine program l Fact first (with_arena (with_new_block b z.arena) z) words m'
  block_laid z words b m m' h room memory ready small stack heap printed input =
      let a = z.arena in
      let place = begin_of (length a.memory) (b ∷ a.blocks) / 4 in
      let same : length (emptied place b.words a.memory) ≡ length a.memory = length_emptied place b.words a.memory in
      let f = h.form in
      let left_is : 4 * b.words + a.heap_to ≤ stack_from a = omega (arith, room, f.below, f.heap.1) in
      let is_place : place ≡ length a.memory - words_of (b ∷ a.blocks) = omega arith in
      record {
        memory = memory ∙ h.memory;
        arena = record {
          long = h.arena.long ∙ sym same;
          words_small = h.arena.words_small;
          lent = λ i w lent e. elim (lent_by_new a b i lent) [
            | inl k ↦ h.arena.lent i w k (there_before place b.words a.memory i w e)
            | inr k ↦ absurd (not_emptied place b.words a.memory i w e (omega (arith, k.0, is_place)) (omega (arith, k.1, is_place, left_is, f.fits)))
          ];
        };
        code = h.code;
        apart = record { laid_below = h.apart.laid_below; arguments_below = h.apart.arguments_below; heap_above = h.apart.heap_above };
        form = record {
          small = omega (arith, same, f.small);
          fits = omega (arith, same, left_is, f.fits);
          heap = f.heap;
          grown = f.grown;
          below = omega (arith, same, left_is, f.fits);
          laid = f.laid;
        };
        long = ready.long;
        zero_is = ready.zero_is;
        registers_small = small;
        stack = omega (arith, stack, h.stack, same, left_is, f.fits);
        heap = heap ∙ h.heap;
        printed = printed ∙ h.printed;
        input = input ∙ h.input;
        input_small = h.input_small;
      }
