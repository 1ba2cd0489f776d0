-- Words in two parts: their sum is the word.
use Rattle.std.proofs.Common.{inl, inr, ◌≡◌, ℕ, ◌+◌, ◌-◌, ◌*◌, ◌%◌, ◌^◌, ◌<◌, ◌≤◌, Bool, true, false, refl, ap, ◌∙◌, arith}
use Rattle.std.specs.Prelude.{◌⊎◌, ◌||◌, nat_lt, nat_le}
use Rattle.std.proofs.lemmas.Bool.Decides.{nat_tests}
use Rattle.base.specs.Arithmetic.{sum32}
use Rattle.rv_machine.specs.Arithmetic.{sign_extended}
use Rattle.back_places.specs.Operands.{high_part, low_part, is_short}

pub small_extended : (n : ℕ) → n < 2048 → sign_extended 12 n ≡ n
small_extended n h = grind (arith, nat_tests)

pub high_extended : (n : ℕ) → n < 4096 → 2048 ≤ n → sign_extended 12 n ≡ n + (2 ^ 32 - 2 ^ 12)
high_extended n h k = grind (arith, nat_tests)

-- the two parts of a word
pub parts_sum : (word : ℕ) → word < 2 ^ 32 → sum32 (high_part word * 4096) (sign_extended 12 (low_part word)) ≡ word
parts_sum word h = by (nat_lt (low_part word) 2048) refl
  where
    by : (t : Bool) → nat_lt (low_part word) 2048 ≡ t → sum32 (high_part word * 4096) (sign_extended 12 (low_part word)) ≡ word
    by true e =
        let low : word % 4096 < 2048 = grind (arith, nat_tests, e) in
        let s = small_extended (word % 4096) low in
        ap (λ x. sum32 (high_part word * 4096) x) s ∙ omega (arith, h, low)
    by false e =
        let low : 2048 ≤ word % 4096 = grind (arith, nat_tests, e) in
        let s = high_extended (word % 4096) (omega arith) low in
        ap (λ x. sum32 (high_part word * 4096) x) s ∙ omega (arith, h, low)

-- the upper part with another word between
pub parts_between :
    (word other : ℕ) → word < 2 ^ 32 → other < 2 ^ 32
    → sum32 (sum32 (high_part word * 4096) other) (sign_extended 12 (low_part word)) ≡ (word + other) % 2 ^ 32
parts_between word other h k =
    let e = parts_sum word h in omega (arith, e)

either_of : (a b : Bool) → (a || b) ≡ true → (a ≡ true) ⊎ (b ≡ true)
either_of true b h = inl refl
either_of false b h = inr h

-- a short word is its own lower part
pub short_is : (word : ℕ) → word < 2 ^ 32 → is_short word ≡ true → sign_extended 12 (low_part word) ≡ word
short_is word h e = elim (either_of (nat_lt word 2048) (nat_le 4294965248 word) e) [
  | inl k ↦
      let below : word < 2048 = grind (arith, nat_tests, k) in
      let same : word % 4096 ≡ word = omega (arith, below) in
      ap (λ x. sign_extended 12 x) same ∙ small_extended word below
  | inr k ↦
      let above : 4294965248 ≤ word = grind (arith, nat_tests, k) in
      high_extended (word % 4096) (omega arith) (omega (arith, above, h)) ∙ omega (arith, above, h)
]

pub low_part_small : (word : ℕ) → low_part word < 2 ^ 12
low_part_small word = omega arith

pub high_part_small : (word : ℕ) → high_part word < 2 ^ 20
high_part_small word = omega arith
