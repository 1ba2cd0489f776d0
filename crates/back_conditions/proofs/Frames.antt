-- A frame that is laid and given back leaves all words: those that are lent are the same, and say the same.
use Rattle.std.proofs.Common.{◌≡◌, ℕ, ◌*◌, ◌<◌, ◌≤◌, Bool, true, false, List, [], ◌∷◌, length, Some, None, refl, sym, ap, ◌∙◌, ⊎_elim, arith}
use Rattle.std.specs.Prelude.{◌==◌, ◌%◌, ◌/◌, ◌&&◌, ◌||◌, slice_get, if◌then◌else◌}
use Rattle.std.proofs.lemmas.Bool.{cases_lt}
use Rattle.std.proofs.lemmas.Bool.Decides.{nat_tests}
use Rattle.mid_code.specs.Arena.{Arena, Block, is_record, begin_of, lent_from, stack_from, left, is_within, is_in_record, is_lent, word_in, word_at, with_blocks, with_new_block}
use Rattle.mid_arena.specs.Growing.{Grows}
use Rattle.mid_arena.specs.Standing.{ArenaStands}
use Rattle.mid_arena.proofs.Growing.{grows_both}
use Rattle.mid_arena.proofs.Memory.{grows_with_new_block, grows_given_back}

-- no word between heap and stack is lent
not_in_blocks : (size : ℕ) (bs : List Block) (x : ℕ) → x < begin_of size bs → is_in_record size bs x ≡ false
not_in_blocks size [] x h = refl
not_in_blocks size (b ∷ bs) x h =
    let first : is_within (lent_from size (b ∷ bs)) (begin_of size bs) x ≡ false = grind (arith, nat_tests) in
    neither (is_record b.kind) _ _ first (not_in_blocks size bs x (omega arith))
  where
    neither : (k a c : Bool) → a ≡ false → c ≡ false → ((k && a) || c) ≡ false
    neither true a c h g = cc
    neither false a c h g = g

pub between_none : (a : Arena) (x : ℕ) → ArenaStands a → a.heap_to ≤ x → x < stack_from a → word_at a x ≡ None
between_none a x h low high =
    let laid : is_within a.laid_from a.laid_to x ≡ false = grind (arith, nat_tests, h.laid, h.heap, low) in
    let heap : is_within a.heap_from a.heap_to x ≡ false = grind (arith, nat_tests, low) in
    let records : is_in_record (length a.memory) a.blocks x ≡ false = not_in_blocks (length a.memory) a.blocks x high in
    ap (λ t. if t then word_in (slice_get a.memory (x / 4)) else None) (nowhere (x % 4 == 0) _ _ _ laid heap records)
  where
    nowhere : (t k l r : Bool) → k ≡ false → l ≡ false → r ≡ false → (t && (k || l || r)) ≡ false
    nowhere true k l r e f g = cc
    nowhere false k l r e f g = refl

-- the arena where a frame was laid and given back
abbrev pub framed : Block → Arena → Arena
framed b a = with_blocks a.blocks (with_new_block b a)

module _ {a : Arena} (b : Block) (h : ArenaStands a) (some : b.words ≤ left a) where
  pub framed_grows : Grows a (framed b a)
  framed_grows =
      let laid = grows_with_new_block b h some in
      grows_both a (with_new_block b a) (framed b a) laid (grows_given_back b a.blocks laid.stands refl) (λ x from to. omega (arith, from, laid.size))

  pub framed_stack : stack_from (framed b a) ≡ stack_from a
  framed_stack = ap (λ n. begin_of n a.blocks) framed_grows.size

  -- each word is as it was
  pub framed_word : (x : ℕ) → word_at (framed b a) x ≡ word_at a x
  framed_word x = ⊎_elim (λ low. framed_grows.words x low) (λ high. ⊎_elim (between high) (λ from. framed_grows.stack x from (omega (arith, from, framed_stack))) (cases_lt x (stack_from a))) (cases_lt x a.heap_to)
    where
      between : a.heap_to ≤ x → x < stack_from a → word_at (framed b a) x ≡ word_at a x
      between low high =
          between_none (framed b a) x framed_grows.stands (omega (arith, low)) (omega (arith, high, framed_stack)) ∙ sym (between_none a x h low high)

-- ---- words that are there

lent_of_word : (a : Arena) (x w : ℕ) → word_at a x ≡ Some w → is_lent a x ≡ true
lent_of_word a x w e = by (is_lent a x) e
  where
    by : (b : Bool) → (if b then word_in (slice_get a.memory (x / 4)) else None) ≡ Some w → b ≡ true
    by true e = refl
    by false e = absurd (cc e)

not_above : (size : ℕ) (bs : List Block) (x : ℕ) → 4 * size ≤ x → is_in_record size bs x ≡ false
not_above size [] x h = refl
not_above size (b ∷ bs) x h =
    let first : is_within (lent_from size (b ∷ bs)) (begin_of size bs) x ≡ false = grind (arith, nat_tests) in
    neither (is_record b.kind) _ _ first (not_above size bs x h)
  where
    neither : (k a c : Bool) → a ≡ false → c ≡ false → ((k && a) || c) ≡ false
    neither true a c h g = cc
    neither false a c h g = g

-- it is at the address of a word, in the memory
pub record IsThere (a : Arena) (x : ℕ) : Type 0 where
  pub aligned : x % 4 ≡ 0
  pub below : x < 4 * length a.memory

pub word_there : (a : Arena) (x w : ℕ) → ArenaStands a → word_at a x ≡ Some w → IsThere a x
word_there a x w h e = record { aligned = grind (arith, nat_tests, first (x % 4 == 0) _ lent); below = ⊎_elim (λ low. low) (λ high. absurd (cc (sym lent ∙ outside high))) (cases_lt x (4 * length a.memory)) }
  where
    lent : is_lent a x ≡ true
    lent = lent_of_word a x w e

    first : (b c : Bool) → (b && c) ≡ true → b ≡ true
    first true c g = refl
    first false c g = g

    outside : 4 * length a.memory ≤ x → is_lent a x ≡ false
    outside high =
        let laid : is_within a.laid_from a.laid_to x ≡ false = grind (arith, nat_tests, h.laid, h.heap, h.room, high) in
        let heap : is_within a.heap_from a.heap_to x ≡ false = grind (arith, nat_tests, h.room, high) in
        nowhere (x % 4 == 0) _ _ _ laid heap (not_above (length a.memory) a.blocks x high)
      where
        nowhere : (t k l r : Bool) → k ≡ false → l ≡ false → r ≡ false → (t && (k || l || r)) ≡ false
        nowhere true k l r e f g = cc
        nowhere false k l r e f g = refl

-- it stays where a block is laid
pub laid_word : (a : Arena) (b : Block) (x w : ℕ) → ArenaStands a → b.words ≤ left a → word_at a x ≡ Some w → word_at (with_new_block b a) x ≡ Some w
laid_word a b x w h some e =
    ⊎_elim (λ low. grows.heap.words x low ∙ e) (λ high. ⊎_elim (λ below. absurd (cc (sym e ∙ between_none a x h high below))) (λ from. grows.stack x from (omega (arith, from, grows.heap.size)) ∙ e) (cases_lt x (stack_from a))) (cases_lt x a.heap_to)
  where
    grows : Grows a (with_new_block b a)
    grows = grows_with_new_block b h some
