-- Products of integers on their words.
use Rattle.std.proofs.Common.{◌≡◌, ℕ, suc, ◌-◌, ◌*◌, ◌/◌, ◌%◌, ◌^◌, ◌<◌, ◌≤◌, ℤ, pos, Bool, true, ⊎_elim, sym, ap, ◌∙◌, arith}
use Rattle.std.specs.Prelude.{negsuc, ◌*ℤ◌, ◌==◌, nat_lt, unsigned_abs, FitsSigned}
use Rattle.std.specs.Int.{w32}
use Rattle.std.proofs.lemmas.Nat.{mul-le}
use Rattle.std.proofs.lemmas.Int.{ints, unsigned_abs-mul}
use Rattle.std.proofs.lemmas.Bool.{cases_lt, ne_eqb, lt-ltb, le-ltb}
use borrow.Author.Differences.{up, down}
use Rattle.base.specs.Arithmetic.{low_word, product32, high_signed, shift_right_signed, shifted_down}
use Rattle.lang_meaning.specs.Values.{in_range}
use Rattle.mid_arena.specs.Tags.{integer_word}
use Rattle.mid_arena.proofs.WordFacts.{low_word_of_pos, low_word_of_negsuc, signed_low, signed_high, four_fits, range_tells, in_range_is, above_range_is, below_range_is}
use Rattle.mid_arena.proofs.ArithmeticWords.{product_of_low_words, divided_down_is, shift_of_low_word, high_of_low_words}

-- The product of the words in registers 0 and 1, in register 3; it is the word of the product where registers 4 and 5 are equal:
--     Constant 6 2
--     Compute 3 ShiftRightSigned 0 6      the first integer itself
--     Compute 4 MultiplyHigh 3 1
--     Compute 3 Multiply 3 1
--     Constant 6 31
--     Compute 5 ShiftRightSigned 3 6      all bits as the highest one of the product
abbrev pub untagged : ℕ → ℕ
untagged a = shift_right_signed a 2

abbrev pub product_word : ℕ → ℕ → ℕ
product_word a b = product32 (untagged a) b

abbrev pub product_high : ℕ → ℕ → ℕ
product_high a b = high_signed (untagged a) b

abbrev pub product_sign : ℕ → ℕ → ℕ
product_sign a b = shift_right_signed (product_word a b) 31

pub untagged_is : (a : ℤ) → in_range a ≡ true → untagged (integer_word a) ≡ low_word a
untagged_is a g = shift_of_low_word (pos 4 *ℤ a) 2 (four_fits a g) ∙ ap low_word (divided_down_is (pos 4 *ℤ a) a 4 (omega (arith, ints)) (omega (arith, ints)))

-- a factor of a product may be taken out
pub four_times_factor : (a b : ℤ) → a *ℤ (pos 4 *ℤ b) ≡ pos 4 *ℤ (a *ℤ b)
four_times_factor a b =
    let u : up (pos 4 *ℤ b) ≡ 4 * up b = omega (arith, ints) in
    let d : down (pos 4 *ℤ b) ≡ 4 * down b = omega (arith, ints) in
    omega (arith, ints, ap (λ x. up a * x) u, ap (λ x. down a * x) d, ap (λ x. up a * x) d, ap (λ x. down a * x) u)

pub product_is : (a b : ℤ) → in_range a ≡ true → product_word (integer_word a) (integer_word b) ≡ integer_word (a *ℤ b)
product_is a b g = rw (untagged_is a g) (product_of_low_words a (pos 4 *ℤ b) ∙ ap low_word (four_times_factor a b))

-- all bits as the highest one of a word
sign_of_low : (w : ℕ) → w < 2 ^ 31 → shift_right_signed w 31 ≡ 0
unfolding shift_right_signed
sign_of_low w h = rw (signed_low w h) (low_word_of_pos (w / 2 ^ 31) ∙ omega arith)

sign_of_high : (w : ℕ) → 2 ^ 31 ≤ w → w < 2 ^ 32 → shift_right_signed w 31 ≡ 2 ^ 32 - 1
unfolding shift_right_signed
sign_of_high w h k = rw (signed_high w h) (low_word_of_negsuc ((2 ^ 32 - suc w) / 2 ^ 31) ∙ omega arith)

-- the upper half of a number of 64 bits is all its sign exactly where the number has 32 bits
abbrev is_all_sign : ℤ → Bool
is_all_sign q = low_word (shifted_down q 32) == shift_right_signed (low_word q) 31

equal_words : (a b c d : ℕ) → a ≡ c → b ≡ d → (a == b) ≡ (c == d)
equal_words a b c d e f = (λ i. e i == f i)

sign_of_pos : (n : ℕ) → n < 2 ^ 63 → is_all_sign (pos n) ≡ nat_lt n (2 ^ 31)
sign_of_pos n h = ⊎_elim small (λ k. ⊎_elim (middle k) large (cases_lt n (2 ^ 32))) (cases_lt n (2 ^ 31))
  where
    high : low_word (shifted_down (pos n) 32) ≡ n / 2 ^ 32
    high = low_word_of_pos (n / 2 ^ 32) ∙ omega arith

    low : low_word (pos n) ≡ n % 2 ^ 32
    low = low_word_of_pos n

    small : n < 2 ^ 31 → is_all_sign (pos n) ≡ nat_lt n (2 ^ 31)
    small k =
        let first : n / 2 ^ 32 ≡ 0 = omega arith in
        let sign : shift_right_signed (low_word (pos n)) 31 ≡ 0 = rw low (sign_of_low (n % 2 ^ 32) (omega arith)) in
        equal_words _ _ 0 0 (high ∙ first) sign ∙ sym (lt-ltb n (2 ^ 31) k)

    middle : 2 ^ 31 ≤ n → n < 2 ^ 32 → is_all_sign (pos n) ≡ nat_lt n (2 ^ 31)
    middle k l =
        let first : n / 2 ^ 32 ≡ 0 = omega arith in
        let sign : shift_right_signed (low_word (pos n)) 31 ≡ 2 ^ 32 - 1 = rw low (sign_of_high (n % 2 ^ 32) (omega arith) (omega arith)) in
        equal_words _ _ 0 (2 ^ 32 - 1) (high ∙ first) sign ∙ sym (le-ltb n (2 ^ 31) k)

    large : 2 ^ 32 ≤ n → is_all_sign (pos n) ≡ nat_lt n (2 ^ 31)
    large k =
        let bound : n % 2 ^ 32 < 2 ^ 32 = omega arith in
        ne_eqb _ _ (λ e. ⊎_elim
        (λ l. let sign : shift_right_signed (low_word (pos n)) 31 ≡ 0 = rw low (sign_of_low (n % 2 ^ 32) l) in absurd (omega (arith, high, e, sign)))
        (λ l. let sign : shift_right_signed (low_word (pos n)) 31 ≡ 2 ^ 32 - 1 = rw low (sign_of_high (n % 2 ^ 32) l bound) in absurd (omega (arith, high, e, sign)))
        (cases_lt (n % 2 ^ 32) (2 ^ 31))) ∙ sym (le-ltb n (2 ^ 31) (omega arith))

sign_of_negsuc : (n : ℕ) → n < 2 ^ 63 → is_all_sign (negsuc n) ≡ nat_lt n (2 ^ 31)
sign_of_negsuc n h = ⊎_elim small (λ k. ⊎_elim (middle k) large (cases_lt n (2 ^ 32))) (cases_lt n (2 ^ 31))
  where
    high : low_word (shifted_down (negsuc n) 32) ≡ 2 ^ 32 - 1 - n / 2 ^ 32
    high = low_word_of_negsuc (n / 2 ^ 32) ∙ omega arith

    low : low_word (negsuc n) ≡ 2 ^ 32 - 1 - n % 2 ^ 32
    low = low_word_of_negsuc n

    small : n < 2 ^ 31 → is_all_sign (negsuc n) ≡ nat_lt n (2 ^ 31)
    small k =
        let first : n / 2 ^ 32 ≡ 0 = omega arith in
        let sign : shift_right_signed (low_word (negsuc n)) 31 ≡ 2 ^ 32 - 1 = rw low (sign_of_high _ (omega arith) (omega arith)) in
        equal_words _ _ (2 ^ 32 - 1) (2 ^ 32 - 1) (omega (arith, high, first)) sign ∙ sym (lt-ltb n (2 ^ 31) k)

    middle : 2 ^ 31 ≤ n → n < 2 ^ 32 → is_all_sign (negsuc n) ≡ nat_lt n (2 ^ 31)
    middle k l =
        let first : n / 2 ^ 32 ≡ 0 = omega arith in
        let sign : shift_right_signed (low_word (negsuc n)) 31 ≡ 0 = rw low (sign_of_low _ (omega arith)) in
        equal_words _ _ (2 ^ 32 - 1) 0 (omega (arith, high, first)) sign ∙ sym (le-ltb n (2 ^ 31) k)

    large : 2 ^ 32 ≤ n → is_all_sign (negsuc n) ≡ nat_lt n (2 ^ 31)
    large k =
        ne_eqb _ _ (λ e. ⊎_elim
        (λ l. let sign : shift_right_signed (low_word (negsuc n)) 31 ≡ 2 ^ 32 - 1 = rw low (sign_of_high _ (omega arith) (omega arith)) in absurd (omega (arith, high, e, sign)))
        (λ l. let sign : shift_right_signed (low_word (negsuc n)) 31 ≡ 0 = rw low (sign_of_low _ (omega arith)) in absurd (omega (arith, high, e, sign)))
        (cases_lt (n % 2 ^ 32) (2 ^ 31))) ∙ sym (le-ltb n (2 ^ 31) (omega arith))

-- four times a number has 32 bits exactly where the number is in range
range_of_four_pos : (p : ℤ) (n : ℕ) → pos 4 *ℤ p ≡ pos n → nat_lt n (2 ^ 31) ≡ in_range p
range_of_four_pos p n e = ⊎_elim
    (λ h. lt-ltb n (2 ^ 31) h ∙ sym (in_range_is p (omega (arith, ints)) (omega (arith, ints))))
    (λ h. le-ltb n (2 ^ 31) h ∙ sym (above_range_is p (omega (arith, ints)))) (cases_lt n (2 ^ 31))

range_of_four_negsuc : (p : ℤ) (n : ℕ) → pos 4 *ℤ p ≡ negsuc n → nat_lt n (2 ^ 31) ≡ in_range p
range_of_four_negsuc p n e = ⊎_elim
    (λ h. lt-ltb n (2 ^ 31) h ∙ sym (in_range_is p (omega (arith, ints)) (omega (arith, ints))))
    (λ h. le-ltb n (2 ^ 31) h ∙ sym (below_range_is p (omega (arith, ints)))) (cases_lt n (2 ^ 31))

sign_of_four : (p q : ℤ) → pos 4 *ℤ p ≡ q → unsigned_abs q < 2 ^ 63 → is_all_sign q ≡ in_range p
sign_of_four p (pos n) e h = sign_of_pos n h ∙ range_of_four_pos p n e
sign_of_four p (negsuc n) e h = sign_of_negsuc n (omega arith) ∙ range_of_four_negsuc p n e

pub product_in_range :
    (a b : ℤ) → in_range a ≡ true → in_range b ≡ true
    → (product_high (integer_word a) (integer_word b) == product_sign (integer_word a) (integer_word b)) ≡ in_range (a *ℤ b)
product_in_range a b g h =
    let q = a *ℤ (pos 4 *ℤ b) in
    let first = range_tells a g in
    let second = range_tells b h in
    let size : unsigned_abs a * unsigned_abs (pos 4 *ℤ b) ≤ 2 ^ 29 * 2 ^ 31 =
    mul-le (unsigned_abs a) (unsigned_abs (pos 4 *ℤ b)) (2 ^ 29) (2 ^ 31) (omega (arith, ints, first.0, first.1)) (omega (arith, ints, second.0, second.1)) in
    let bound : unsigned_abs q < 2 ^ 63 = rw (unsigned_abs-mul a (pos 4 *ℤ b)) (omega (arith, size)) in
    let fits : FitsSigned w32 a = omega (arith, ints, first.0, first.1) in
    let high : product_high (integer_word a) (integer_word b) ≡ low_word (shifted_down q 32) =
    rw (untagged_is a g) (high_of_low_words a (pos 4 *ℤ b) fits (four_fits b h)) in
    let sign : product_sign (integer_word a) (integer_word b) ≡ shift_right_signed (low_word q) 31 = rw (product_is a b g, ← (four_times_factor a b)) in
    equal_words _ _ _ _ high sign ∙ sign_of_four (a *ℤ b) q (sym (four_times_factor a b)) bound
