-- A frame that is laid lends nothing: all words are as they were, inside it and where it is given back.
use Rattle.std.proofs.Common.{◌≡◌, ◌⊎◌, inl, inr, ℕ, ◌<◌, ◌≤◌, Bool, true, false, List, [], ◌∷◌, length, None, refl, sym, ap, ◌∙◌, arith}
use Rattle.std.specs.Prelude.{slice_get, ◌==◌, ◌%◌, ◌/◌, ◌&&◌, ◌||◌, if◌then◌else◌}
use Rattle.std.proofs.lemmas.Bool.Decides.{nat_tests}
use Rattle.std.proofs.lemmas.Bool.{cases_lt}
use Rattle.mid_code.specs.Arena.{Arena, Block, is_record, activation_frame, begin_of, lent_from, stack_from, left, is_within, is_in_record, is_lent, word_in, word_at, with_blocks, with_new_block}
use Rattle.mid_code.proofs.Growth.{length-emptied}
use Rattle.mid_arena.specs.Growing.{Grows}
use Rattle.mid_arena.specs.Standing.{ArenaStands}
use Rattle.mid_arena.proofs.Memory.{grows_with_new_block}

-- below the stack no word is in a record
below_records : (size : ℕ) (bs : List Block) (x : ℕ) → x < begin_of size bs → is_in_record size bs x ≡ false
below_records size [] x h = refl
below_records size (b ∷ bs) x h =
    let first : is_within (lent_from size (b ∷ bs)) (begin_of size bs) x ≡ false = grind (arith, nat_tests) in
    let others : is_in_record size bs x ≡ false = below_records size bs x (omega arith) in
    both_false (is_record b.kind) _ _ first others
  where
    both_false : (k a b : Bool) → a ≡ false → b ≡ false → ((k && a) || b) ≡ false
    both_false true a b h g = cc
    both_false false a b h g = g

-- between heap and stack nothing is lent
not_lent : (a : Arena) (x : ℕ) → ArenaStands a → a.heap_to ≤ x → x < stack_from a → is_lent a x ≡ false
not_lent a x h low high =
    let laid : is_within a.laid_from a.laid_to x ≡ false = let k = h.laid in let l = h.heap in grind (arith, nat_tests) in
    let heap : is_within a.heap_from a.heap_to x ≡ false = grind (arith, nat_tests) in
    none (x % 4 == 0) _ _ _ laid heap (below_records (length a.memory) a.blocks x high)
  where
    none : (t k l r : Bool) → k ≡ false → l ≡ false → r ≡ false → (t && (k || l || r)) ≡ false
    none true k l r e f g = cc
    none false k l r e f g = refl

no_word : (a : Arena) (x : ℕ) → is_lent a x ≡ false → word_at a x ≡ None
no_word a x h = ap (λ t. if t then word_in (slice_get a.memory (x / 4)) else None) h

module _ (a : Arena) (words : ℕ) (stands : ArenaStands a) (some : words ≤ left a) where
  abbrev frame : Block
  frame = record { words = words; kind = activation_frame }

  frame_lent : (x : ℕ) → is_lent (with_new_block frame a) x ≡ is_lent a x
  frame_lent x =
      ap (λ n. (x % 4 == 0) && (is_within a.laid_from a.laid_to x || is_within a.heap_from a.heap_to x || is_in_record n a.blocks x))
      (length-emptied _ words a.memory)

  -- **words under a frame**
  pub frame_word : (x : ℕ) → word_at (with_new_block frame a) x ≡ word_at a x
  frame_word x = by (cases_lt x a.heap_to) (cases_lt x (stack_from a))
    where
      grows : Grows a (with_new_block frame a)
      grows = grows_with_new_block frame stands some

      below : x < a.heap_to → word_at (with_new_block frame a) x ≡ word_at a x
      below h = grows.words x h

      between : a.heap_to ≤ x → x < stack_from a → word_at (with_new_block frame a) x ≡ word_at a x
      between low high =
          let nothing : is_lent a x ≡ false = not_lent a x stands low high in
          no_word (with_new_block frame a) x (frame_lent x ∙ nothing) ∙ sym (no_word a x nothing)

      above : stack_from a ≤ x → word_at (with_new_block frame a) x ≡ word_at a x
      above h =
          let same : length (with_new_block frame a).memory ≡ length a.memory = length-emptied _ words a.memory in
          grows.stack x h (omega (arith, h, same))

      by : (x < a.heap_to) ⊎ (a.heap_to ≤ x) → (x < stack_from a) ⊎ (stack_from a ≤ x) → word_at (with_new_block frame a) x ≡ word_at a x
      by (inl low) q = below low
      by (inr high) (inl low) = between high low
      by (inr high) (inr far) = above far

-- **words where it is given back**
pub frame_back : (a : Arena) (words : ℕ) (bs : List Block) (x : ℕ) → a.blocks ≡ record { words = words; kind = activation_frame } ∷ bs → word_at (with_blocks bs a) x ≡ word_at a x
frame_back a words bs x e =
    ap (λ cs. if (x % 4 == 0) && (is_within a.laid_from a.laid_to x || is_within a.heap_from a.heap_to x || is_in_record (length a.memory) cs x) then word_in (slice_get a.memory (x / 4)) else None)
    (sym e)
