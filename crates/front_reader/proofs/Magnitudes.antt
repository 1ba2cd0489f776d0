-- The magnitude of an integer, one digit at a time.
use Rattle.std.proofs.Common.{◌≡◌, ℕ, ◌+◌, ◌*◌, ◌<◌, ◌≤◌, ◌≢◌, Bool, true, false, nat_lt, if◌then◌else◌, List, [], ◌∷◌, length, get_or, drop, refl, arith, add-one, drop-cons}
use Rattle.std.proofs.lemmas.List.{drop_all}
use Rattle.std.proofs.Math.Nat.{mul-le-mul_left}
use Rattle.front_reader.specs.Characters.{digit_value}
use Rattle.std.proofs.lemmas.Bool.{lt-ltb, le-ltb}
use Rattle.front_reader.specs.Tokens.{digits_value, behind_sign, is_negative, is_wide, magnitude}

-- one digit more of those that are left
pub digits_at : (base : ℕ) (bs : List ℕ) (i n : ℕ) → i < length bs → digits_value base n (drop i bs) ≡ digits_value base (n * base + digit_value (get_or bs i 0)) (drop (i + 1) bs)
digits_at base bs i n h = rw (drop-cons bs i 0, add-one i) refl

pub digits_end : (base : ℕ) (bs : List ℕ) (i n : ℕ) → length bs ≤ i → digits_value base n (drop i bs) ≡ n
digits_end base bs i n h = rw (drop_all i bs h) refl

-- more digits make no number smaller
pub digits_grow : (base n : ℕ) (bs : List ℕ) → 1 ≤ base → n ≤ digits_value base n bs
digits_grow base n [] h = omega arith
digits_grow base n (b ∷ bs) h = omega (arith, digits_grow base (n * base + digit_value b) bs h, mul-le-mul_left n h)

pub ruleset digits = (digits_at, digits_end, digits_grow)

-- which integers are too wide
wide_by : (x : Bool) (m : ℕ) → 536870912 < m → nat_lt (if x then 536870912 else 536870911) m ≡ true
wide_by true m h = lt-ltb 536870912 m h
wide_by false m h = lt-ltb 536870911 m (omega (arith, h))

pub wide_above : (base : ℕ) (w : List ℕ) → 536870912 < digits_value base 0 (behind_sign w) → is_wide base w ≡ true
unfolding magnitude
wide_above base w h = wide_by (is_negative w) (digits_value base 0 (behind_sign w)) h

pub wide_negative : (base : ℕ) (w : List ℕ) → is_negative w ≡ true → digits_value base 0 (behind_sign w) ≤ 536870912 → is_wide base w ≡ false
unfolding magnitude
wide_negative base w n h = rw n (le-ltb 536870912 (digits_value base 0 (behind_sign w)) h)

pub wide_greatest : (base : ℕ) (w : List ℕ) → is_negative w ≡ false → digits_value base 0 (behind_sign w) ≡ 536870912 → is_wide base w ≡ true
unfolding magnitude
wide_greatest base w n h = rw (n, h) refl

pub wide_positive : (base : ℕ) (w : List ℕ) → is_negative w ≡ false → digits_value base 0 (behind_sign w) ≤ 536870912 → digits_value base 0 (behind_sign w) ≢ 536870912 → is_wide base w ≡ false
unfolding magnitude
wide_positive base w n h d = rw n (le-ltb 536870911 (digits_value base 0 (behind_sign w)) (omega (arith, h, d)))

pub ruleset widths = (wide_above, wide_negative, wide_greatest, wide_positive)
