-- Sums and differences of integers on their words.
use Rattle.std.proofs.Common.{◌≡◌, ℕ, ◌+◌, ◌^◌, ◌<◌, ◌≤◌, ℤ, pos, Bool, true, false, ⊎_elim, refl, sym, ap, ◌∙◌, arith}
use Rattle.std.specs.Prelude.{negsuc, ◌*ℤ◌, ◌+ℤ◌, ◌-ℤ◌, neg_ℤ, ◌==◌, int_lt, if◌then◌else◌}
use Rattle.std.proofs.lemmas.Int.{ints}
use Rattle.std.proofs.lemmas.Bool.{cases_lt}
use borrow.Author.Differences.{up, down, true_is_lt, false_is_lt}
use Rattle.base.specs.Arithmetic.{low_word, signed, sum32, difference32, one_if_less_signed}
use Rattle.lang_meaning.specs.Values.{in_range}
use Rattle.mid_arena.specs.Tags.{integer_word}
use Rattle.mid_arena.proofs.WordFacts.{signed_integer_word, signed_is, range_tells, in_range_is, above_range_is, below_range_is, same_truth, is_negative}
use Rattle.mid_arena.proofs.ArithmeticWords.{sum_of_low_words, difference_of_low_words}

-- 1 or 0
abbrev pub bit_of : Bool → ℕ
bit_of b = if b then 1 else 0

equal_bits : (b : Bool) → (bit_of b == bit_of b) ≡ true
equal_bits true = refl
equal_bits false = refl

-- The sum of the words in registers 0 and 1, in register 3; it is the word of the sum where registers 4 and 5 are equal:
--     Compute 3 Add 0 1
--     Constant 6 0
--     Compute 4 Less 1 6        whether the second word is negative
--     Compute 5 Less 3 0        whether the sum is less than the first word
abbrev pub sum_word : ℕ → ℕ → ℕ
sum_word a b = sum32 a b

abbrev pub sum_falls : ℕ → ℕ → ℕ
sum_falls a b = one_if_less_signed (sum_word a b) a

abbrev pub is_negative_word : ℕ → ℕ
is_negative_word b = one_if_less_signed b 0

pub sum_is : (a b : ℤ) → sum_word (integer_word a) (integer_word b) ≡ integer_word (a +ℤ b)
sum_is a b = sum_of_low_words (pos 4 *ℤ a) (pos 4 *ℤ b) ∙ ap low_word (omega (arith, ints))

-- a change that is added to an integer: the sum is in range where it is less exactly if the change is negative
module _ (a c : ℤ) (g : in_range a ≡ true) where
  falls_as : (s : ℤ) → signed (integer_word (a +ℤ c)) ≡ s → one_if_less_signed (integer_word (a +ℤ c)) (integer_word a) ≡ bit_of (int_lt s (pos 4 *ℤ a))
  falls_as s e = (λ i. bit_of (int_lt (e i) (signed_integer_word a g i)))

  pub change_in_range :
      up c ≤ 2 ^ 29 + down c → down c ≤ 2 ^ 29 + up c
      → (bit_of (int_lt c (pos 0)) == one_if_less_signed (integer_word (a +ℤ c)) (integer_word a)) ≡ in_range (a +ℤ c)
  change_in_range high low =
      ⊎_elim (λ from. ⊎_elim (λ to. inside from to) (λ to. below to) (cases_lt (down a + down c) (2 ^ 29 + up a + up c + 1))) (λ from. above from)
      (cases_lt (up a + up c) (2 ^ 29 + down a + down c))
    where
      inside :
          up a + up c < 2 ^ 29 + down a + down c → down a + down c < 2 ^ 29 + up a + up c + 1
          → (bit_of (int_lt c (pos 0)) == one_if_less_signed (integer_word (a +ℤ c)) (integer_word a)) ≡ in_range (a +ℤ c)
      inside h k =
          let fits = in_range_is (a +ℤ c) (omega (arith, ints)) (omega (arith, ints)) in
          let falls = falls_as (pos 4 *ℤ (a +ℤ c)) (signed_integer_word (a +ℤ c) fits) in
          let same : int_lt (pos 4 *ℤ (a +ℤ c)) (pos 4 *ℤ a) ≡ int_lt c (pos 0) =
          same_truth _ _ (λ t. sym (true_is_lt c (pos 0) (omega (arith, ints)))) (λ t. sym (true_is_lt (pos 4 *ℤ (a +ℤ c)) (pos 4 *ℤ a) (omega (arith, ints)))) in
          rw (falls, same, fits) (equal_bits (int_lt c (pos 0)))

      above :
          2 ^ 29 + down a + down c ≤ up a + up c
          → (bit_of (int_lt c (pos 0)) == one_if_less_signed (integer_word (a +ℤ c)) (integer_word a)) ≡ in_range (a +ℤ c)
      above h =
          let r = pos 4 *ℤ (a +ℤ c) +ℤ negsuc 4294967295 in
          let out = above_range_is (a +ℤ c) (omega (arith, ints)) in
          let range = range_tells a g in
          let falls = falls_as r (signed_is (pos 4 *ℤ (a +ℤ c)) r 0 1 (omega (arith, ints)) (omega (arith, ints))) in
          let less : int_lt r (pos 4 *ℤ a) ≡ true = sym (true_is_lt r (pos 4 *ℤ a) (omega (arith, ints))) in
          let positive : int_lt c (pos 0) ≡ false = sym (false_is_lt c (pos 0) (omega (arith, range.0, range.1))) in
          rw (falls, less, positive, out)

      below :
          2 ^ 29 + up a + up c + 1 ≤ down a + down c
          → (bit_of (int_lt c (pos 0)) == one_if_less_signed (integer_word (a +ℤ c)) (integer_word a)) ≡ in_range (a +ℤ c)
      below h =
          let r = pos 4 *ℤ (a +ℤ c) +ℤ pos (2 ^ 32) in
          let out = below_range_is (a +ℤ c) (omega (arith, ints)) in
          let range = range_tells a g in
          let falls = falls_as r (signed_is (pos 4 *ℤ (a +ℤ c)) r 1 0 (omega (arith, ints)) (omega (arith, ints))) in
          let more : int_lt r (pos 4 *ℤ a) ≡ false = sym (false_is_lt r (pos 4 *ℤ a) (omega (arith, ints))) in
          let negative : int_lt c (pos 0) ≡ true = sym (true_is_lt c (pos 0) (omega (arith, range.0, range.1))) in
          rw (falls, more, negative, out)

pub sum_in_range :
    (a b : ℤ) → in_range a ≡ true → in_range b ≡ true
    → (is_negative_word (integer_word b) == sum_falls (integer_word a) (integer_word b)) ≡ in_range (a +ℤ b)
sum_in_range a b g h =
    let range = range_tells b h in
    let negative : is_negative_word (integer_word b) ≡ bit_of (int_lt b (pos 0)) = ap bit_of (is_negative b h) in
    rw (negative, sum_is a b) (change_in_range a b g (omega (arith, range.0)) range.1)

-- and where it is greater exactly if the change is positive
module _ (a c : ℤ) (g : in_range a ≡ true) where
  rises_as : (s : ℤ) → signed (integer_word (a +ℤ c)) ≡ s → one_if_less_signed (integer_word a) (integer_word (a +ℤ c)) ≡ bit_of (int_lt (pos 4 *ℤ a) s)
  rises_as s e = (λ i. bit_of (int_lt (signed_integer_word a g i) (e i)))

  pub rise_in_range :
      up c ≤ 2 ^ 29 + down c → down c ≤ 2 ^ 29 + up c
      → (bit_of (int_lt (pos 0) c) == one_if_less_signed (integer_word a) (integer_word (a +ℤ c))) ≡ in_range (a +ℤ c)
  rise_in_range high low =
      ⊎_elim (λ from. ⊎_elim (λ to. inside from to) (λ to. below to) (cases_lt (down a + down c) (2 ^ 29 + up a + up c + 1))) (λ from. above from)
      (cases_lt (up a + up c) (2 ^ 29 + down a + down c))
    where
      inside :
          up a + up c < 2 ^ 29 + down a + down c → down a + down c < 2 ^ 29 + up a + up c + 1
          → (bit_of (int_lt (pos 0) c) == one_if_less_signed (integer_word a) (integer_word (a +ℤ c))) ≡ in_range (a +ℤ c)
      inside h k =
          let fits = in_range_is (a +ℤ c) (omega (arith, ints)) (omega (arith, ints)) in
          let rises = rises_as (pos 4 *ℤ (a +ℤ c)) (signed_integer_word (a +ℤ c) fits) in
          let same : int_lt (pos 4 *ℤ a) (pos 4 *ℤ (a +ℤ c)) ≡ int_lt (pos 0) c =
          same_truth _ _ (λ t. sym (true_is_lt (pos 0) c (omega (arith, ints)))) (λ t. sym (true_is_lt (pos 4 *ℤ a) (pos 4 *ℤ (a +ℤ c)) (omega (arith, ints)))) in
          rw (rises, same, fits) (equal_bits (int_lt (pos 0) c))

      above :
          2 ^ 29 + down a + down c ≤ up a + up c
          → (bit_of (int_lt (pos 0) c) == one_if_less_signed (integer_word a) (integer_word (a +ℤ c))) ≡ in_range (a +ℤ c)
      above h =
          let r = pos 4 *ℤ (a +ℤ c) +ℤ negsuc 4294967295 in
          let out = above_range_is (a +ℤ c) (omega (arith, ints)) in
          let range = range_tells a g in
          let rises = rises_as r (signed_is (pos 4 *ℤ (a +ℤ c)) r 0 1 (omega (arith, ints)) (omega (arith, ints))) in
          let less : int_lt (pos 4 *ℤ a) r ≡ false = sym (false_is_lt (pos 4 *ℤ a) r (omega (arith, ints))) in
          let positive : int_lt (pos 0) c ≡ true = sym (true_is_lt (pos 0) c (omega (arith, range.0, range.1))) in
          rw (rises, less, positive, out)

      below :
          2 ^ 29 + up a + up c + 1 ≤ down a + down c
          → (bit_of (int_lt (pos 0) c) == one_if_less_signed (integer_word a) (integer_word (a +ℤ c))) ≡ in_range (a +ℤ c)
      below h =
          let r = pos 4 *ℤ (a +ℤ c) +ℤ pos (2 ^ 32) in
          let out = below_range_is (a +ℤ c) (omega (arith, ints)) in
          let range = range_tells a g in
          let rises = rises_as r (signed_is (pos 4 *ℤ (a +ℤ c)) r 1 0 (omega (arith, ints)) (omega (arith, ints))) in
          let more : int_lt (pos 4 *ℤ a) r ≡ true = sym (true_is_lt (pos 4 *ℤ a) r (omega (arith, ints))) in
          let negative : int_lt (pos 0) c ≡ false = sym (false_is_lt (pos 0) c (omega (arith, range.0, range.1))) in
          rw (rises, more, negative, out)

-- The difference of the words in registers 0 and 1, in register 3; it is the word of the difference where registers 4 and 5 are equal:
--     Compute 3 Subtract 0 1
--     Constant 6 0
--     Compute 4 Less 1 6        whether the second word is negative
--     Compute 5 Less 0 3        whether the first word is less than the difference
abbrev pub difference_word : ℕ → ℕ → ℕ
difference_word a b = difference32 a b

abbrev pub difference_rises : ℕ → ℕ → ℕ
difference_rises a b = one_if_less_signed a (difference_word a b)

pub difference_is : (a b : ℤ) → difference_word (integer_word a) (integer_word b) ≡ integer_word (a -ℤ b)
difference_is a b = difference_of_low_words (pos 4 *ℤ a) (pos 4 *ℤ b) ∙ ap low_word (omega (arith, ints))

pub difference_in_range :
    (a b : ℤ) → in_range a ≡ true → in_range b ≡ true
    → (is_negative_word (integer_word b) == difference_rises (integer_word a) (integer_word b)) ≡ in_range (a -ℤ b)
difference_in_range a b g h =
    let range = range_tells b h in
    let turned : int_lt b (pos 0) ≡ int_lt (pos 0) (neg_ℤ b) =
    same_truth _ _ (λ t. sym (true_is_lt (pos 0) (neg_ℤ b) (omega (arith, ints)))) (λ t. sym (true_is_lt b (pos 0) (omega (arith, ints)))) in
    let negative : is_negative_word (integer_word b) ≡ bit_of (int_lt (pos 0) (neg_ℤ b)) = ap bit_of (is_negative b h ∙ turned) in
    rw (negative, difference_is a b) (rise_in_range a (neg_ℤ b) g (omega (arith, ints, range.1)) (omega (arith, ints, range.0)))
