-- What casts, shifts, products, quotients and remainders of the code give, as the definitions have it.
use Rattle.std.proofs.Common.{◌≡◌, ℕ, zero, suc, ◌+◌, ◌-◌, ◌/◌, ◌%◌, ◌<◌, ◌≤◌, false, ℤ, pos, ◌*ℤ◌, refl, sym, ap, ◌∙◌, arith, inl, inr, FitsSigned, to_z, of_z, w32, w64}
use Rattle.std.specs.Prelude.{negsuc, neg_ℤ, unsigned_abs, int_div, int_rem, ◌==◌, if◌then◌else◌}
use Rattle.std.specs.Int.{int_div_euclid}
use lib.Signed.{mag, shr_z, quot_z, rem_z, mag_shr, mag_rem}
use Rattle.std.proofs.lemmas.Bool.{cases_lt, eq-eqb}
use Rattle.std.proofs.lemmas.Bool.Decides.{nat_tests}
use Rattle.std.proofs.lemmas.Int.{to_z-of_z, fits_signed_mul}
use Rattle.std.proofs.lemmas.Nat.{div_below}
use Rattle.base.specs.Arithmetic.{low_word, shifted_down, signed, quotient_signed, remainder_signed}

fits32 : (z : ℤ) → mag z < 2147483648 → FitsSigned w32 z
fits32 z h = record { sfits = h }

fits64 : (z : ℤ) → mag z < 9223372036854775808 → FitsSigned w64 z
fits64 z h = record { sfits = h }

-- the bits of a number that fits are its lowest
low-fits : (z : ℤ) → mag z < 2147483648 → of_z w32 z ≡ low_word z
unfolding low_word
low-fits (pos n) h = omega arith
low-fits (negsuc n) h = omega arith

low-fits64 : (z : ℤ) → mag z < 9223372036854775808 → of_z w64 z % 4294967296 ≡ low_word z
unfolding low_word
low-fits64 (pos n) h = omega arith
low-fits64 (negsuc n) h = omega arith

-- a number that fits, in bits and back
turned : (z : ℤ) → mag z < 2147483648 → to_z w32 (of_z w32 z) ≡ z
turned z h = to_z-of_z w32 z (fits32 z h)

turned64 : (z : ℤ) → mag z < 9223372036854775808 → to_z w64 (of_z w64 z) ≡ z
turned64 z h = to_z-of_z w64 z (fits64 z h)

shr-is : (z : ℤ) (m : ℕ) → shr_z z m ≡ int_div_euclid z (pos m)
shr-is (pos n) m = refl
shr-is (negsuc n) m = refl

-- a shift to the right divides and rounds down
pub shifted_low : (x : ℤ) (m r : ℕ) → mag x < 2147483648 → r ≡ of_z w32 (to_z w32 (of_z w32 (shr_z (to_z w32 (of_z w32 x)) m))) → r ≡ low_word (int_div_euclid x (pos m))
shifted_low x m r h e =
    let small : mag (shr_z x m) < 2147483648 = omega (arith, mag_shr x m) in
    e
    ∙ (ap (λ z. of_z w32 (to_z w32 (of_z w32 (shr_z z m)))) (turned x h)
    ∙ (ap (of_z w32) (turned (shr_z x m) small) ∙ (low-fits (shr_z x m) small ∙ ap low_word (shr-is x m))))

pub shifted_low64 : (x : ℤ) (m r : ℕ) → mag x < 9223372036854775808 → r ≡ of_z w64 (to_z w64 (of_z w64 (shr_z (to_z w64 (of_z w64 x)) m))) → r % 4294967296 ≡ low_word (int_div_euclid x (pos m))
shifted_low64 x m r h e =
    let small : mag (shr_z x m) < 9223372036854775808 = omega (arith, mag_shr x m) in
    ap (λ z. z % 4294967296) e
    ∙ (ap (λ z. of_z w64 (to_z w64 (of_z w64 (shr_z z m))) % 4294967296) (turned64 x h)
    ∙ (ap (λ z. of_z w64 z % 4294967296) (turned64 (shr_z x m) small) ∙ (low-fits64 (shr_z x m) small ∙ ap low_word (shr-is x m))))

abs-mag : (z : ℤ) → unsigned_abs z ≤ mag z + 1
abs-mag (pos n) = omega arith
abs-mag (negsuc n) = omega arith

-- a product of 64 bits
pub product_turned : (x y : ℤ) → mag x < 2147483648 → mag y < 4294967295 → to_z w64 (of_z w64 (to_z w64 (of_z w64 x) *ℤ to_z w64 (of_z w64 y))) ≡ x *ℤ y
product_turned x y hx hy =
    let fits : FitsSigned w64 (x *ℤ y) = fits_signed_mul w64 x y 2147483648 4294967295 (omega (arith, abs-mag x)) (omega (arith, abs-mag y)) (omega arith) in
    ap (λ z. to_z w64 (of_z w64 (z *ℤ to_z w64 (of_z w64 y)))) (turned64 x (omega arith))
    ∙ (ap (λ z. to_z w64 (of_z w64 (x *ℤ z))) (turned64 y (omega arith)) ∙ to_z-of_z w64 (x *ℤ y) fits)

-- the same of a signed number with one that is not negative
pub product_mixed : (x : ℤ) (b : ℕ) (y : ℤ) → y ≡ pos b → mag x < 2147483648 → b < 4294967296 → to_z w64 (of_z w64 (to_z w64 (of_z w64 x) *ℤ to_z w64 (of_z w64 y))) ≡ x *ℤ y
product_mixed x b y e hx hb =
    let hy : mag y < 9223372036854775808 = rw e (omega arith) in
    let abs : unsigned_abs y ≤ 4294967295 = rw e (omega arith) in
    let fits : FitsSigned w64 (x *ℤ y) = fits_signed_mul w64 x y 2147483648 4294967295 (omega (arith, abs-mag x)) abs (omega arith) in
    ap (λ z. to_z w64 (of_z w64 (z *ℤ to_z w64 (of_z w64 y)))) (turned64 x (omega arith))
    ∙ (ap (λ z. to_z w64 (of_z w64 (x *ℤ z))) (turned64 y hy) ∙ to_z-of_z w64 (x *ℤ y) fits)

-- quotients
mag-neg : (n : ℕ) → mag (neg_ℤ (pos n)) + 1 ≤ n + 1
mag-neg zero = omega arith
mag-neg (suc n) = omega arith

mag-neg_below : (n : ℕ) → n ≤ 2147483648 → mag (neg_ℤ (pos n)) < 2147483648
mag-neg_below zero h = omega arith
mag-neg_below (suc n) h = omega arith

quotient_fits : (x y : ℤ) → mag x < 2147483648 → 0 < unsigned_abs y → (y ≡ negsuc 0 → ⊥) → mag (quot_z x y) < 2147483648
quotient_fits (pos a) (pos b) h some ne = div_below a b 2147483648 some (omega arith)
quotient_fits (pos a) (negsuc b) h some ne =
    let q = div_below a (suc b) 2147483648 (omega arith) (omega arith) in mag-neg_below (a / suc b) (omega arith)
quotient_fits (negsuc a) (pos b) h some ne =
    let q = div_below (suc a) b 2147483649 some (omega arith) in mag-neg_below (suc a / b) (omega arith)
quotient_fits (negsuc a) (negsuc zero) h some ne = absurd (ne refl)
quotient_fits (negsuc a) (negsuc (suc b)) h some ne = div_below (suc a) (suc (suc b)) 2147483648 (omega arith) (omega arith)

signed-low : (a : ℕ) → a < 2147483648 → signed a ≡ pos a
signed-low a h = grind (arith, nat_tests)

signed-high : (a : ℕ) → 2147483648 ≤ a → signed a ≡ negsuc (4294967296 - suc a)
signed-high a h = grind (arith, nat_tests)

signed-not_minus_one : (b : ℕ) → b < 4294967296 → (b ≡ 4294967295 → ⊥) → signed b ≡ negsuc 0 → ⊥
signed-not_minus_one b small ne e = elim (cases_lt b 2147483648) [
  | inl low ↦ let f = signed-low b low in cc
  | inr high ↦
      let f = signed-high b high in
      let g : negsuc (4294967296 - suc b) ≡ negsuc 0 = sym f ∙ e in
      let k : 4294967296 - suc b ≡ 0 = cc in
      ne (omega arith)
]

signed-some : (b : ℕ) → (b ≡ 0 → ⊥) → 0 < unsigned_abs (signed b)
signed-some b ne = elim (cases_lt b 2147483648) [
  | inl low ↦ rw (signed-low b low) (omega arith)
  | inr high ↦ rw (signed-high b high) (omega arith)
]

pub quotient_by_zero : (a b : ℕ) → b ≡ 0 → 4294967295 ≡ quotient_signed a b
unfolding quotient_signed
quotient_by_zero a b e = sym (ap (λ t. if t then 4294967295 else low_word (int_div (signed a) (signed b))) (eq-eqb b 0 e))

pub remainder_by_zero : (a b : ℕ) → b ≡ 0 → a ≡ remainder_signed a b
unfolding remainder_signed
remainder_by_zero a b e = sym (ap (λ t. if t then a else low_word (int_rem (signed a) (signed b))) (eq-eqb b 0 e))

quotient-else : (a b : ℕ) → (b ≡ 0 → ⊥) → quotient_signed a b ≡ low_word (int_div (signed a) (signed b))
unfolding quotient_signed
quotient-else a b ne =
    let test : (b == 0) ≡ false = grind (arith, nat_tests) in
    ap (λ t. if t then 4294967295 else low_word (int_div (signed a) (signed b))) test

remainder-else : (a b : ℕ) → (b ≡ 0 → ⊥) → remainder_signed a b ≡ low_word (int_rem (signed a) (signed b))
unfolding remainder_signed
remainder-else a b ne =
    let test : (b == 0) ≡ false = grind (arith, nat_tests) in
    ap (λ t. if t then a else low_word (int_rem (signed a) (signed b))) test

negated : (n r : ℕ) → n < 4294967296 → r < 4294967296 → (r + n) % 4294967296 ≡ 0 → r ≡ low_word (neg_ℤ (pos n))
unfolding low_word
negated zero r h small e = omega arith
negated (suc n) r h small e = omega arith

-- by minus one, the quotient is the number negated
pub quotient_by_minus_one : (a b r : ℕ) → a < 4294967296 → b ≡ 4294967295 → r < 4294967296 → (r + a) % 4294967296 ≡ 0 → r ≡ quotient_signed a b
unfolding low_word
quotient_by_minus_one a b r ha hb hr e =
    let divisor : signed b ≡ negsuc 0 = ap signed hb in
    let one : a / 1 ≡ a = omega arith in
    let same : suc (4294967296 - suc a) / 1 ≡ 4294967296 - a = omega arith in
    (elim (cases_lt a 2147483648) [
      | inl low ↦
          negated a r ha hr e ∙ (ap (λ n. low_word (neg_ℤ (pos n))) (sym one) ∙ sym (ap (λ z. low_word (int_div z (negsuc 0))) (signed-low a low)))
      | inr high ↦
          let value : r ≡ low_word (pos (4294967296 - a)) = omega arith in
          value ∙ (ap (λ n. low_word (pos n)) (sym same) ∙ sym (ap (λ z. low_word (int_div z (negsuc 0))) (signed-high a high)))
    ])
    ∙ (ap (λ z. low_word (int_div (signed a) z)) (sym divisor) ∙ sym (quotient-else a b (λ z. omega arith)))

rem-one : (z : ℤ) → 0 ≡ low_word (int_rem z (negsuc 0))
unfolding low_word
rem-one (pos n) = omega arith
rem-one (negsuc n) = let e : suc n % 1 ≡ 0 = omega arith in rw e refl

pub remainder_by_minus_one : (a b : ℕ) → b ≡ 4294967295 → 0 ≡ remainder_signed a b
remainder_by_minus_one a b hb =
    let divisor : signed b ≡ negsuc 0 = ap signed hb in
    rem-one (signed a) ∙ (ap (λ z. low_word (int_rem (signed a) z)) (sym divisor) ∙ sym (remainder-else a b (λ z. omega arith)))

pub quotient_else : (a b r : ℕ) (x y : ℤ) → x ≡ signed a → mag x < 2147483648 → y ≡ signed b → mag y < 2147483648
    → b < 4294967296 → (b ≡ 0 → ⊥) → (b ≡ 4294967295 → ⊥)
    → r ≡ of_z w32 (to_z w32 (of_z w32 (quot_z (to_z w32 (of_z w32 x)) (to_z w32 (of_z w32 y))))) → r ≡ quotient_signed a b
quotient_else a b r x y ex hx ey hy small some ne e =
    let fits : mag (quot_z x y) < 2147483648 = quotient_fits x y hx (rw ey (signed-some b some)) (λ q. signed-not_minus_one b small ne (sym ey ∙ q)) in
    e
    ∙ (ap (λ z. of_z w32 (to_z w32 (of_z w32 (quot_z z (to_z w32 (of_z w32 y)))))) (turned x hx)
    ∙ (ap (λ z. of_z w32 (to_z w32 (of_z w32 (quot_z x z)))) (turned y hy)
    ∙ (ap (of_z w32) (turned (quot_z x y) fits)
    ∙ (low-fits (quot_z x y) fits
    ∙ (ap (λ z. low_word (quot_z z y)) ex ∙ (ap (λ z. low_word (quot_z (signed a) z)) ey ∙ sym (quotient-else a b some)))))))

pub remainder_else : (a b r : ℕ) (x y : ℤ) → x ≡ signed a → mag x < 2147483648 → y ≡ signed b → mag y < 2147483648
    → (b ≡ 0 → ⊥)
    → r ≡ of_z w32 (to_z w32 (of_z w32 (rem_z (to_z w32 (of_z w32 x)) (to_z w32 (of_z w32 y))))) → r ≡ remainder_signed a b
remainder_else a b r x y ex hx ey hy some e =
    let fits : mag (rem_z x y) < 2147483648 = omega (arith, mag_rem x y) in
    e
    ∙ (ap (λ z. of_z w32 (to_z w32 (of_z w32 (rem_z z (to_z w32 (of_z w32 y)))))) (turned x hx)
    ∙ (ap (λ z. of_z w32 (to_z w32 (of_z w32 (rem_z x z)))) (turned y hy)
    ∙ (ap (of_z w32) (turned (rem_z x y) fits)
    ∙ (low-fits (rem_z x y) fits
    ∙ (ap (λ z. low_word (rem_z z y)) ex ∙ (ap (λ z. low_word (rem_z (signed a) z)) ey ∙ sym (remainder-else a b some)))))))

-- the upper halves of products
pub bits_of_both : (a b r : ℕ) (x y x' y' : ℤ)
    → r ≡ low_word (shifted_down (to_z w64 (of_z w64 (to_z w64 (of_z w64 x') *ℤ to_z w64 (of_z w64 y')))) 32)
    → x' ≡ to_z w32 (of_z w32 x) → x ≡ signed a → mag x < 2147483648
    → y' ≡ to_z w32 (of_z w32 y) → y ≡ signed b → mag y < 2147483648
    → r ≡ low_word (shifted_down (signed a *ℤ signed b) 32)
bits_of_both a b r x y x' y' e ex' ex hx ey' ey hy =
    let xx : x' ≡ x = ex' ∙ turned x hx in
    let yy : y' ≡ y = ey' ∙ turned y hy in
    e
    ∙ (ap (λ z. low_word (shifted_down (to_z w64 (of_z w64 (to_z w64 (of_z w64 z) *ℤ to_z w64 (of_z w64 y')))) 32)) xx
    ∙ (ap (λ z. low_word (shifted_down (to_z w64 (of_z w64 (to_z w64 (of_z w64 x) *ℤ to_z w64 (of_z w64 z)))) 32)) yy
    ∙ (ap (λ z. low_word (shifted_down z 32)) (product_turned x y hx (omega arith))
    ∙ (ap (λ z. low_word (shifted_down (z *ℤ y) 32)) ex ∙ ap (λ z. low_word (shifted_down (signed a *ℤ z) 32)) ey))))

pub bits_of_one : (a b r : ℕ) (x x' y : ℤ)
    → r ≡ low_word (shifted_down (to_z w64 (of_z w64 (to_z w64 (of_z w64 x') *ℤ to_z w64 (of_z w64 y)))) 32)
    → x' ≡ to_z w32 (of_z w32 x) → x ≡ signed a → mag x < 2147483648
    → y ≡ pos b → mag y < 9223372036854775808 → b < 4294967296
    → r ≡ low_word (shifted_down (signed a *ℤ pos b) 32)
bits_of_one a b r x x' y e ex' ex hx ey hy hb =
    let xx : x' ≡ x = ex' ∙ turned x hx in
    e
    ∙ (ap (λ z. low_word (shifted_down (to_z w64 (of_z w64 (to_z w64 (of_z w64 z) *ℤ to_z w64 (of_z w64 y)))) 32)) xx
    ∙ (ap (λ z. low_word (shifted_down z 32)) (product_mixed x b y ey hx hb)
    ∙ (ap (λ z. low_word (shifted_down (z *ℤ y) 32)) ex ∙ ap (λ z. low_word (shifted_down (signed a *ℤ z) 32)) ey)))
