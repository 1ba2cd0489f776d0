-- Quotients rounded down and their remainders, of integers on their words.
use Rattle.std.proofs.Common.{◌≡◌, ℕ, zero, suc, ◌+◌, ◌*◌, ◌/◌, ◌%◌, ◌^◌, ◌<◌, ◌≤◌, ℤ, pos, Bool, true, false, ⊎_elim, inl, inr, refl, sym, ap, ◌∙◌, arith}
use Rattle.std.specs.Prelude.{negsuc, neg_ℤ, ◌+ℤ◌, ◌-ℤ◌, ◌*ℤ◌, ◌==◌, int_lt, int_div, int_rem, not, ◌⊎◌, unsigned_abs}
use Rattle.std.proofs.Math.IntN.{*ℤ_comm}
use Rattle.std.proofs.Math.Nat.{div-le_self, mod-lt, div-add-mod', mul-div-mul_left, zero-div, zero-mod}
use Rattle.std.proofs.lemmas.Nat.{mul-le, div-mul-add, mod-mul-add}
use Rattle.std.proofs.lemmas.Int.{ints, quot-rem, rem_below, unsigned_abs-mul}
use Rattle.std.proofs.lemmas.Bool.{cases_lt, lt-ltb, eq-eqb, ne_eqb}
use borrow.Author.Differences.{up, down, true_is_lt, false_is_lt}
use Rattle.base.specs.Arithmetic.{low_word, sum32, difference32, product32, high_signed, quotient_signed, remainder_signed, shift_left, shifted_down, less_signed, one_if_less_signed, one_if_less}
use Rattle.lang_meaning.specs.Values.{in_range, int_equal}
use Rattle.lang_meaning.specs.Primitives.{floor_quotient, floor_remainder}
use Rattle.mid_arena.specs.Tags.{integer_word}
use Rattle.mid_arena.proofs.WordFacts.{four_times_below, is_negative, integer_word_of_pos, integer_word_of_negsuc, low_word_of_negsuc, low_word_of_pos, low_word_of_word}
use Rattle.mid_arena.proofs.WordFacts.{signed_low_word, signed_integer_word, integer_is_zero, four_fits, range_tells, in_range_is, above_range_is}
use Rattle.mid_arena.proofs.ArithmeticWords.{sum_of_low_words, difference_of_low_words, product_of_low_words, high_of_low_words}
use Rattle.mid_arena.proofs.ArithmeticSum.{bit_of}
use Rattle.mid_arena.proofs.ArithmeticProduct.{four_times_factor}

-- ---- of integers: the quotient rounded down is that rounded towards zero, or one less

-- the quotient of the next number
next_divided : (a b : ℕ) → 0 < b → ((suc a % b ≡ 0) × (suc a / b ≡ suc (a / b))) ⊎ ((0 < suc a % b) × (suc a / b ≡ a / b))
next_divided a b h = ⊎_elim (λ k. inr (within k)) (λ k. inl (at_end k)) (cases_lt (suc (a % b)) b)
  where
    split : a / b * b + a % b ≡ a
    split = div-add-mod' a b

    within : suc (a % b) < b → (0 < suc a % b) × (suc a / b ≡ a / b)
    within k =
        let is : suc a ≡ a / b * b + suc (a % b) = omega (arith, split) in
        (omega (arith, ap (λ x. x % b) is ∙ mod-mul-add (a / b) b (suc (a % b)) k), ap (λ x. x / b) is ∙ div-mul-add (a / b) b (suc (a % b)) k)

    at_end : b ≤ suc (a % b) → (suc a % b ≡ 0) × (suc a / b ≡ suc (a / b))
    at_end k =
        let below : a % b < b = mod-lt a h in
        let is : suc a ≡ suc (a / b) * b + 0 = omega (arith, split) in
        (ap (λ x. x % b) is ∙ mod-mul-add (suc (a / b)) b 0 h, ap (λ x. x / b) is ∙ div-mul-add (suc (a / b)) b 0 h)

-- whether the remainder and the divisor have different signs
abbrev pub is_corrected : ℤ → ℤ → Bool
is_corrected a b = int_lt (int_rem a b *ℤ b) (pos 0)

abbrev pub correction : ℤ → ℤ → ℕ
correction a b = bit_of (is_corrected a b)

uncorrected : (a b q : ℤ) → is_corrected a b ≡ false → q ≡ int_div a b → q ≡ int_div a b -ℤ pos (correction a b)
uncorrected a b q h e = rw h (omega (arith, ints))

corrected : (a b q : ℤ) → is_corrected a b ≡ true → q +ℤ pos 1 ≡ int_div a b → q ≡ int_div a b -ℤ pos (correction a b)
corrected a b q h e = rw h (omega (arith, ints))

-- the sign of a product
negative_by_positive : (r b : ℕ) → 0 < r → int_lt (neg_ℤ (pos r) *ℤ pos (suc b)) (pos 0) ≡ true
negative_by_positive zero b h = absurd (omega arith)
negative_by_positive (suc r) b h = sym (true_is_lt (neg_ℤ (pos (suc r * suc b))) (pos 0) (omega (arith, ints)))

positive_by_negative : (r b : ℕ) → 0 < r → int_lt (pos r *ℤ negsuc b) (pos 0) ≡ true
positive_by_negative zero b h = absurd (omega arith)
positive_by_negative (suc r) b h = sym (true_is_lt (neg_ℤ (pos (suc r * suc b))) (pos 0) (omega (arith, ints)))

negative_by_negative : (r b : ℕ) → int_lt (neg_ℤ (pos r) *ℤ negsuc b) (pos 0) ≡ false
negative_by_negative zero b = sym (false_is_lt (neg_ℤ (pos (0 * suc b))) (pos 0) (omega (arith, ints)))
negative_by_negative (suc r) b = sym (false_is_lt (pos (suc r * suc b)) (pos 0) (omega (arith, ints)))

zero_by : (b : ℤ) → int_lt (pos 0 *ℤ b) (pos 0) ≡ false
zero_by (pos b) = sym (false_is_lt (pos (0 * b)) (pos 0) (omega (arith, ints)))
zero_by (negsuc b) = sym (false_is_lt (neg_ℤ (pos (0 * suc b))) (pos 0) (omega (arith, ints)))

pub floor_is : (a b : ℤ) → int_equal b (pos 0) ≡ false → floor_quotient a b ≡ int_div a b -ℤ pos (correction a b)
floor_is (pos a) (pos b) h = uncorrected (pos a) (pos b) _ (sym (false_is_lt (pos (a % b) *ℤ pos b) (pos 0) (omega arith))) refl
floor_is (negsuc a) (pos zero) h = absurd (cc h)
floor_is (negsuc a) (pos (suc b)) h = ⊎_elim
    (λ k. uncorrected (negsuc a) (pos (suc b)) _ (ap (λ x. int_lt (neg_ℤ (pos x) *ℤ pos (suc b)) (pos 0)) k.0 ∙ zero_by (pos (suc b))) (sym (ap (λ x. neg_ℤ (pos x)) k.1)))
    (λ k. corrected (negsuc a) (pos (suc b)) _ (negative_by_positive (suc a % suc b) b k.0) (omega (arith, ints, k.1)))
    (next_divided a (suc b) (omega arith))
floor_is (pos zero) (negsuc b) h =
    uncorrected (pos 0) (negsuc b) _ (ap (λ x. int_lt (pos x *ℤ negsuc b) (pos 0)) (zero-mod (suc b)) ∙ zero_by (negsuc b)) (sym (ap (λ x. neg_ℤ (pos x)) (zero-div (suc b))))
floor_is (pos (suc a)) (negsuc b) h = ap (λ x. negsuc (a / x)) (omega arith) ∙ ⊎_elim
    (λ k. uncorrected (pos (suc a)) (negsuc b) _ (ap (λ x. int_lt (pos x *ℤ negsuc b) (pos 0)) k.0 ∙ zero_by (negsuc b)) (sym (ap (λ x. neg_ℤ (pos x)) k.1)))
    (λ k. corrected (pos (suc a)) (negsuc b) _ (positive_by_negative (suc a % suc b) b k.0) (omega (arith, ints, k.1)))
    (next_divided a (suc b) (omega arith))
floor_is (negsuc a) (negsuc b) h = uncorrected (negsuc a) (negsuc b) _ (negative_by_negative (suc a % suc b) b) (λ i. pos (next a i / next b i))
  where
    next : (n : ℕ) → n + 1 ≡ suc n
    next n = omega arith

four_negsuc : (b : ℕ) → pos 4 *ℤ negsuc b ≡ negsuc (4 * b + 3)
four_negsuc b = omega (arith, ints)

four_quotients : (a b : ℕ) → 4 * a / (4 * b) ≡ a / b
four_quotients a b = mul-div-mul_left a b (omega arith)

four_suc : (b : ℕ) → suc (4 * b + 3) ≡ 4 * suc b
four_suc b = omega arith

-- a quotient is that of the numbers four times
quotient_of_four : (a b : ℤ) → int_div (pos 4 *ℤ a) (pos 4 *ℤ b) ≡ int_div a b
quotient_of_four (pos a) (pos b) = ap pos (four_quotients a b)
quotient_of_four (pos a) (negsuc b) = rw (four_negsuc b) (ap (λ x. neg_ℤ (pos (4 * a / x))) (omega arith) ∙ ap (λ x. neg_ℤ (pos x)) (four_quotients a (suc b)))
quotient_of_four (negsuc a) (pos b) = rw (four_negsuc a) (ap (λ x. neg_ℤ (pos (x / (4 * b)))) (omega arith) ∙ ap (λ x. neg_ℤ (pos x)) (four_quotients (suc a) b))
quotient_of_four (negsuc a) (negsuc b) = rw (four_negsuc a, four_negsuc b) ((λ i. pos (four_suc a i / four_suc b i)) ∙ ap pos (four_quotients (suc a) (suc b)))

remainder_of_four : (a b : ℤ) → int_rem (pos 4 *ℤ a) (pos 4 *ℤ b) ≡ pos 4 *ℤ int_rem a b
remainder_of_four a b =
    let whole = quot-rem a b in
    let four_whole = quot-rem (pos 4 *ℤ a) (pos 4 *ℤ b) in
    let product = ap (λ x. x *ℤ (pos 4 *ℤ b)) (quotient_of_four a b) ∙ four_times_factor (int_div a b) b in
    omega (arith, ints, whole, four_whole, product)

-- bounds

floor_bounds : (a b : ℤ) → in_range a ≡ true → (up (floor_quotient a b) ≤ 2 ^ 29) × (down (floor_quotient a b) ≤ 2 ^ 29)
floor_bounds (pos a) (pos b) g = let range = range_tells (pos a) g in (omega (arith, range.0, div-le_self a b), omega arith)
floor_bounds (negsuc a) (pos b) g = let range = range_tells (negsuc a) g in (omega arith, omega (arith, range.1, div-le_self a b))
floor_bounds (pos zero) (negsuc b) g = (omega arith, omega arith)
floor_bounds (pos (suc a)) (negsuc b) g = let range = range_tells (pos (suc a)) g in (omega arith, omega (arith, range.0, div-le_self a (b + 1)))
floor_bounds (negsuc a) (negsuc b) g = let range = range_tells (negsuc a) g in (omega (arith, range.1, div-le_self (a + 1) (b + 1)), omega arith)

not_zero : (b : ℤ) → int_equal b (pos 0) ≡ false → 0 < unsigned_abs b
not_zero (pos zero) h = absurd (cc h)
not_zero (pos (suc b)) h = omega arith
not_zero (negsuc b) h = omega arith

remainder_small : (a b : ℤ) → in_range b ≡ true → int_equal b (pos 0) ≡ false → unsigned_abs (int_rem a b) < 2 ^ 29
remainder_small a b g h = let range = range_tells b g in omega (arith, ints, range.0, range.1, rem_below a b (not_zero b h))

remainder_in_range : (a b : ℤ) → in_range b ≡ true → int_equal b (pos 0) ≡ false → in_range (int_rem a b) ≡ true
remainder_in_range a b g h = let small = remainder_small a b g h in in_range_is (int_rem a b) (omega (arith, ints)) (omega (arith, ints))

floor_remainder_is : (a b : ℤ) → int_equal b (pos 0) ≡ false → floor_remainder a b ≡ int_rem a b +ℤ pos (correction a b) *ℤ b
floor_remainder_is a b h =
    let whole = quot-rem a b in
    let floor : up (floor_quotient a b) + down (int_div a b) + correction a b ≡ down (floor_quotient a b) + up (int_div a b) = omega (arith, ints, floor_is a b h) in
    let above = ap (λ x. up b * x) floor in
    let below = ap (λ x. down b * x) floor in
    omega (arith, ints, whole, above, below)

-- a remainder that is corrected has its sign turned
corrected_in_range : (r b : ℤ) → in_range b ≡ true → unsigned_abs r < unsigned_abs b → in_range (r +ℤ pos (bit_of (int_lt (r *ℤ b) (pos 0))) *ℤ b) ≡ true
corrected_in_range r b g h = by r b (int_lt (r *ℤ b) (pos 0)) refl g h
  where
    by : (r b : ℤ) (t : Bool) → int_lt (r *ℤ b) (pos 0) ≡ t → in_range b ≡ true → unsigned_abs r < unsigned_abs b → in_range (r +ℤ pos (bit_of t) *ℤ b) ≡ true
    by r b false e g h =
        let range = range_tells b g in
        in_range_is (r +ℤ pos 0 *ℤ b) (omega (arith, ints, range.0, range.1)) (omega (arith, ints, range.0, range.1))
    by (pos x) (pos y) true e g h = absurd (omega (arith, ints))
    by (pos x) (negsuc y) true e g h =
        let range = range_tells (negsuc y) g in
        in_range_is (pos x +ℤ pos 1 *ℤ negsuc y) (omega (arith, ints, range.1)) (omega (arith, ints, range.1))
    by (negsuc x) (pos y) true e g h =
        let range = range_tells (pos y) g in
        in_range_is (negsuc x +ℤ pos 1 *ℤ pos y) (omega (arith, ints, range.0)) (omega (arith, ints, range.0))
    by (negsuc x) (negsuc y) true e g h = absurd (omega (arith, ints))

pub floor_remainder_in_range : (a b : ℤ) → in_range b ≡ true → int_equal b (pos 0) ≡ false → in_range (floor_remainder a b) ≡ true
floor_remainder_in_range a b g h = rw (floor_remainder_is a b h) (corrected_in_range (int_rem a b) b g (rem_below a b (not_zero b h)))

-- ---- of words

-- The quotient rounded down of the words in registers 0 and 1, the second of which is not 0, in register 3; it is in range where register 3 is
-- not 2 ^ 29 before the last step:
--     Constant 6 0
--     Compute 3 Divide 0 1            the integers' quotient rounded towards zero
--     Compute 4 Remainder 0 1         the word of its remainder
--     Compute 5 Less 4 6
--     Compute 7 Less 1 6
--     Compute 5 Subtract 5 7
--     Compute 5 LessUnsigned 6 5      whether the remainder and the divisor have different signs
--     Compute 7 LessUnsigned 6 4      whether there is a remainder
--     Compute 5 Multiply 5 7          then the quotient is one less
--     Compute 3 Subtract 3 5
--     Constant 6 2
--     Compute 3 ShiftLeft 3 6
-- and of the remainder, in register 4, after the same steps up to the product:
--     Compute 5 Multiply 5 1
--     Compute 4 Add 4 5
abbrev pub signs_differ_word : (remainder divisor : ℕ) → ℕ
signs_differ_word r b = one_if_less 0 (difference32 (one_if_less_signed r 0) (one_if_less_signed b 0))

abbrev pub correction_by : (remainder divisor : ℕ) → ℕ
correction_by r b = product32 (signs_differ_word r b) (one_if_less 0 r)

abbrev pub correction_word : ℕ → ℕ → ℕ
correction_word a b = correction_by (remainder_signed a b) b

-- Two steps give the same:
--     Compute 5 MultiplyHigh 4 1      negative exactly where the product of the remainder and the divisor is
--     Compute 5 Less 5 6
abbrev pub short_correction_word : ℕ → ℕ → ℕ
short_correction_word a b = one_if_less_signed (high_signed (remainder_signed a b) b) 0

-- the quotient itself, without a tag
abbrev pub quotient_number : ℕ → ℕ → ℕ
quotient_number a b = difference32 (quotient_signed a b) (correction_word a b)

abbrev pub quotient_word : ℕ → ℕ → ℕ
quotient_word a b = shift_left (quotient_number a b) 2

abbrev pub modulo_word : ℕ → ℕ → ℕ
modulo_word a b = sum32 (remainder_signed a b) (product32 (correction_word a b) b)

bit_below : (t : Bool) → bit_of t < 2 ^ 32
bit_below true = omega arith
bit_below false = omega arith

-- the upper half of a product has its sign
high_is_negative : (q : ℤ) → unsigned_abs q < 2 ^ 63 → less_signed (low_word (shifted_down q 32)) 0 ≡ int_lt q (pos 0)
high_is_negative (pos n) h =
    ap (λ x. int_lt x (pos 0)) (signed_low_word (pos (n / 2 ^ 32)) (omega (arith, ints))) ∙ sym (false_is_lt (pos (n / 2 ^ 32)) (pos 0) (omega arith)) ∙ false_is_lt (pos n) (pos 0) (omega arith)
high_is_negative (negsuc n) h = ap (λ x. int_lt x (pos 0)) (signed_low_word (negsuc (n / 2 ^ 32)) (omega (arith, ints)))

sixteen_times : (r b : ℤ) → (pos 4 *ℤ r) *ℤ (pos 4 *ℤ b) ≡ pos 4 *ℤ (pos 4 *ℤ (r *ℤ b))
sixteen_times r b =
    four_times_factor (pos 4 *ℤ r) b ∙ ap (λ x. pos 4 *ℤ x) (*ℤ_comm (pos 4 *ℤ r) b ∙ four_times_factor b r ∙ ap (λ x. pos 4 *ℤ x) (*ℤ_comm b r))

four_times_sum : (y z : ℤ) → (pos 4 *ℤ y) +ℤ (pos 4 *ℤ z) ≡ pos 4 *ℤ (y +ℤ z)
four_times_sum y z = omega (arith, ints)

number_in_range : (q : ℤ) → up q ≤ 2 ^ 29 → down q ≤ 2 ^ 29 → not (low_word q == 2 ^ 29) ≡ in_range q
number_in_range (pos n) h k = rw (low_word_of_word n (omega arith)) (⊎_elim
    (λ l. ap not (ne_eqb n (2 ^ 29) (λ e. omega arith)) ∙ sym (in_range_is (pos n) (omega arith) (omega arith)))
    (λ l. ap not (eq-eqb n (2 ^ 29) (omega arith)) ∙ sym (above_range_is (pos n) (omega arith)))
    (cases_lt n (2 ^ 29)))
number_in_range (negsuc n) h k = ap not (ne_eqb (low_word (negsuc n)) (2 ^ 29) (λ e. omega (arith, e, low_word_of_negsuc n))) ∙ sym (in_range_is (negsuc n) (omega arith) (omega arith))

-- a product is negative where its factors, which are not zero, have different signs
abbrev differ : Bool → Bool → Bool
differ true q = not q
differ false q = q

signs_differ : (p q : Bool) → one_if_less 0 (difference32 (bit_of p) (bit_of q)) ≡ bit_of (differ p q)
signs_differ true true = refl
signs_differ true false = refl
signs_differ false true = refl
signs_differ false false = refl

not_below_zero : (n : ℕ) → int_lt (pos n) (pos 0) ≡ false
not_below_zero n = sym (false_is_lt (pos n) (pos 0) (omega arith))

product_sign : (r b : ℤ) → 0 < unsigned_abs r → 0 < unsigned_abs b → int_lt (r *ℤ b) (pos 0) ≡ differ (int_lt r (pos 0)) (int_lt b (pos 0))
product_sign (pos x) (pos y) g h = not_below_zero (x * y) ∙ sym (λ i. differ (not_below_zero x i) (not_below_zero y i))
product_sign (pos zero) (negsuc y) g h = absurd (omega arith)
product_sign (pos (suc x)) (negsuc y) g h = positive_by_negative (suc x) y (omega arith) ∙ ap (λ t. differ t true) (sym (not_below_zero (suc x)))
product_sign (negsuc x) (pos zero) g h = absurd (omega arith)
product_sign (negsuc x) (pos (suc y)) g h = negative_by_positive (suc x) y (omega arith) ∙ ap (λ t. differ true t) (sym (not_below_zero (suc y)))
product_sign (negsuc x) (negsuc y) g h = negative_by_negative (suc x) y

bit_times_one : (t : Bool) → product32 (bit_of t) 1 ≡ bit_of t
bit_times_one true = refl
bit_times_one false = refl

-- a correction, where there is a remainder and where there is none
some_correction :
    (r b : ℤ) → in_range r ≡ true → in_range b ≡ true → 0 < unsigned_abs r → 0 < unsigned_abs b → 0 < integer_word r
    → correction_by (integer_word r) (integer_word b) ≡ bit_of (int_lt (r *ℤ b) (pos 0))
some_correction r b g h k l some =
    let one : one_if_less 0 (integer_word r) ≡ 1 = ap bit_of (lt-ltb 0 (integer_word r) some) in
    (λ i. product32 (one_if_less 0 (difference32 (bit_of (is_negative r g i)) (bit_of (is_negative b h i)))) (one i))
    ∙ ap (λ x. product32 x 1) (signs_differ (int_lt r (pos 0)) (int_lt b (pos 0))) ∙ bit_times_one (differ (int_lt r (pos 0)) (int_lt b (pos 0)))
    ∙ ap bit_of (sym (product_sign r b k l))

no_correction : (b : ℤ) → correction_by (integer_word (pos 0)) (integer_word b) ≡ bit_of (int_lt (pos 0 *ℤ b) (pos 0))
no_correction b =
    let none : one_if_less 0 (integer_word (pos 0)) ≡ 0 = ap (λ x. one_if_less 0 x) (low_word_of_pos 0) in
    ap (λ x. product32 (signs_differ_word (integer_word (pos 0)) (integer_word b)) x) none ∙ omega arith ∙ ap bit_of (sym (zero_by b))

correction_by_is :
    (r b : ℤ) → in_range r ≡ true → in_range b ≡ true → int_equal b (pos 0) ≡ false
    → correction_by (integer_word r) (integer_word b) ≡ bit_of (int_lt (r *ℤ b) (pos 0))
correction_by_is (pos zero) b g h n = no_correction b
correction_by_is (pos (suc x)) b g h n =
    let range = range_tells (pos (suc x)) g in
    some_correction (pos (suc x)) b g h (omega arith) (not_zero b n) (omega (arith, range.0, integer_word_of_pos (suc x) (omega (arith, range.0))))
correction_by_is (negsuc x) b g h n =
    let range = range_tells (negsuc x) g in
    some_correction (negsuc x) b g h (omega arith) (not_zero b n) (omega (arith, range.1, integer_word_of_negsuc x (omega (arith, range.1))))

module _ (a b : ℤ) (g : in_range a ≡ true) (h : in_range b ≡ true) (n : int_equal b (pos 0) ≡ false) where
  word_not_zero : (integer_word b == 0) ≡ false
  word_not_zero = integer_is_zero b h ∙ n

  pub quotient_signed_is : quotient_signed (integer_word a) (integer_word b) ≡ low_word (int_div a b)
  unfolding quotient_signed
  quotient_signed_is = rw word_not_zero ((λ i. low_word (int_div (signed_integer_word a g i) (signed_integer_word b h i))) ∙ ap low_word (quotient_of_four a b))

  pub remainder_signed_is : remainder_signed (integer_word a) (integer_word b) ≡ integer_word (int_rem a b)
  unfolding remainder_signed
  remainder_signed_is = rw word_not_zero ((λ i. low_word (int_rem (signed_integer_word a g i) (signed_integer_word b h i))) ∙ ap low_word (remainder_of_four a b))

  pub correction_is : correction_word (integer_word a) (integer_word b) ≡ correction a b
  correction_is = rw remainder_signed_is (correction_by_is (int_rem a b) b (remainder_in_range a b h n) h n)

  pub short_correction_is : short_correction_word (integer_word a) (integer_word b) ≡ correction a b
  short_correction_is =
      let r = int_rem a b in
      let small = remainder_small a b h n in
      let range = range_tells b h in
      let size : unsigned_abs (pos 4 *ℤ r) * unsigned_abs (pos 4 *ℤ b) ≤ 2 ^ 31 * 2 ^ 31 =
      mul-le (unsigned_abs (pos 4 *ℤ r)) (unsigned_abs (pos 4 *ℤ b)) (2 ^ 31) (2 ^ 31) (omega (arith, ints, small)) (omega (arith, ints, range.0, range.1)) in
      let bound : unsigned_abs ((pos 4 *ℤ r) *ℤ (pos 4 *ℤ b)) < 2 ^ 63 = rw (unsigned_abs-mul (pos 4 *ℤ r) (pos 4 *ℤ b)) (omega (arith, size)) in
      let high : high_signed (remainder_signed (integer_word a) (integer_word b)) (integer_word b) ≡ low_word (shifted_down ((pos 4 *ℤ r) *ℤ (pos 4 *ℤ b)) 32) =
      rw remainder_signed_is (high_of_low_words (pos 4 *ℤ r) (pos 4 *ℤ b) (four_fits r (remainder_in_range a b h n)) (four_fits b h)) in
      let sign : less_signed (high_signed (remainder_signed (integer_word a) (integer_word b)) (integer_word b)) 0 ≡ is_corrected a b =
      rw high (high_is_negative _ bound ∙ ap (λ x. int_lt x (pos 0)) (sixteen_times r b) ∙ four_times_below (pos 4 *ℤ (r *ℤ b)) (pos 0) ∙ four_times_below (r *ℤ b) (pos 0)) in
      ap bit_of sign

  correction_low : correction_word (integer_word a) (integer_word b) ≡ low_word (pos (correction a b))
  correction_low = correction_is ∙ sym (low_word_of_word (correction a b) (bit_below (is_corrected a b)))

  pub quotient_number_is : quotient_number (integer_word a) (integer_word b) ≡ low_word (floor_quotient a b)
  quotient_number_is =
      (λ i. difference32 (quotient_signed_is i) (correction_low i)) ∙ difference_of_low_words (int_div a b) (pos (correction a b)) ∙ ap low_word (sym (floor_is a b n))

  pub quotient_is : quotient_word (integer_word a) (integer_word b) ≡ integer_word (floor_quotient a b)
  quotient_is =
      ap (λ x. shift_left x 2) quotient_number_is ∙ ap (λ x. product32 (low_word (floor_quotient a b)) x) (sym (low_word_of_pos 4))
      ∙ product_of_low_words (floor_quotient a b) (pos 4) ∙ ap low_word (*ℤ_comm (floor_quotient a b) (pos 4))

  pub quotient_in_range : not (quotient_number (integer_word a) (integer_word b) == 2 ^ 29) ≡ in_range (floor_quotient a b)
  quotient_in_range = rw quotient_number_is (number_in_range (floor_quotient a b) (floor_bounds a b g).0 (floor_bounds a b g).1)

  pub modulo_is : modulo_word (integer_word a) (integer_word b) ≡ integer_word (floor_remainder a b)
  modulo_is =
      let r = int_rem a b in
      let c = correction a b in
      (λ i. sum32 (remainder_signed_is i) (product32 (correction_low i) (integer_word b)))
      ∙ ap (λ x. sum32 (integer_word r) x) (product_of_low_words (pos c) (pos 4 *ℤ b) ∙ ap low_word (four_times_factor (pos c) b))
      ∙ sum_of_low_words (pos 4 *ℤ r) (pos 4 *ℤ (pos c *ℤ b)) ∙ ap low_word (four_times_sum r (pos c *ℤ b)) ∙ ap integer_word (sym (floor_remainder_is a b n))
