-- Sums, differences, products and shifts of the lowest 32 bits of numbers are those of the sums, differences, products and quotients.
use Rattle.std.proofs.Common.{◌≡◌, ℕ, ◌+◌, ◌-◌, ◌*◌, ◌/◌, ◌%◌, ◌^◌, ◌<◌, ◌≤◌, ℤ, pos, sym, ap, ◌∙◌, arith}
use Rattle.std.specs.Prelude.{negsuc, ◌*ℤ◌, ◌+ℤ◌, ◌-ℤ◌, FitsSigned}
use Rattle.std.specs.Int.{w32, int_div_euclid}
use Rattle.std.proofs.Math.IntN.{*ℤ_comm}
use Rattle.std.proofs.Math.Nat.{div-eq_of_lt-le}
use Rattle.std.proofs.lemmas.Int.{ints}
use borrow.Author.Differences.{up, down}
use Rattle.base.specs.Arithmetic.{low_word, sum32, difference32, product32, shifted_down, shift_right_signed, high_signed}
use Rattle.mid_arena.proofs.WordFacts.{low_word_apart, low_word_is, same_low_word, low_word_of_pos, signed_low_word}

pub sum_of_low_words : (y z : ℤ) → sum32 (low_word y) (low_word z) ≡ low_word (y +ℤ z)
sum_of_low_words y z =
    let s = low_word_apart y in
    let t = low_word_apart z in
    let sum = low_word y + low_word z in
    sym (low_word_is (y +ℤ z) (sum32 (low_word y) (low_word z)) (s.0 + t.0) (s.1 + t.1 + sum / 2 ^ 32)
    (record { below = omega arith; balance = omega (arith, ints, s.2.balance, t.2.balance) }))

pub difference_of_low_words : (y z : ℤ) → difference32 (low_word y) (low_word z) ≡ low_word (y -ℤ z)
difference_of_low_words y z =
    let s = low_word_apart y in
    let t = low_word_apart z in
    let difference = low_word y + 2 ^ 32 - low_word z in
    sym (low_word_is (y -ℤ z) (difference32 (low_word y) (low_word z)) (s.0 + t.1 + 1) (s.1 + t.0 + difference / 2 ^ 32)
    (record { below = omega arith; balance = omega (arith, ints, s.2.balance, t.2.balance, t.2.below) }))

-- to take the lowest 32 bits of a factor first changes nothing
low_factor : (y z : ℤ) → low_word (pos (low_word y) *ℤ z) ≡ low_word (y *ℤ z)
low_factor y z =
    let s = low_word_apart y in
    let above = ap (λ x. x * up z) s.2.balance in
    let below = ap (λ x. x * down z) s.2.balance in
    sym (same_low_word (y *ℤ z) (pos (low_word y) *ℤ z) (s.0 * up z + s.1 * down z) (s.1 * up z + s.0 * down z) (omega (arith, ints, above, below)))

pub product_of_low_words : (y z : ℤ) → product32 (low_word y) (low_word z) ≡ low_word (y *ℤ z)
product_of_low_words y z =
    sym (low_word_of_pos (low_word y * low_word z)) ∙ ap low_word (*ℤ_comm (pos (low_word y)) (pos (low_word z))) ∙ low_factor z (pos (low_word y))
    ∙ ap low_word (*ℤ_comm z (pos (low_word y))) ∙ low_factor y z

-- a quotient rounded down is the number whose product with the divisor is at most the dividend, and less than the divisor below it
pub divided_down_is :
    (z q : ℤ) (m : ℕ) → up q * m + down z ≤ up z + down q * m → up z + down q * m < up q * m + m + down z → int_div_euclid z (pos m) ≡ q
divided_down_is (pos a) (pos c) m g h = ap pos (div-eq_of_lt-le m (omega arith) (omega arith))
divided_down_is (pos a) (negsuc c) m g h = absurd (omega arith)
divided_down_is (negsuc a) (pos c) m g h = absurd (omega arith)
divided_down_is (negsuc a) (negsuc c) m g h = ap negsuc (div-eq_of_lt-le m (omega arith) (omega arith))

-- where a number has 32 bits, it is shifted itself
pub shift_of_low_word : (z : ℤ) (k : ℕ) → FitsSigned w32 z → shift_right_signed (low_word z) k ≡ low_word (shifted_down z (k % 32))
unfolding shift_right_signed
shift_of_low_word z k f = ap (λ x. low_word (shifted_down x (k % 32))) (signed_low_word z f)

pub high_of_low_words : (y z : ℤ) → FitsSigned w32 y → FitsSigned w32 z → high_signed (low_word y) (low_word z) ≡ low_word (shifted_down (y *ℤ z) 32)
unfolding high_signed
high_of_low_words y z f g = (λ i. low_word (shifted_down (signed_low_word y f i *ℤ signed_low_word z g i) 32))
