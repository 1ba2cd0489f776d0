-- Branches and jumps reach where they go.
use Rattle.std.proofs.Common.{◌≡◌, ℕ, ◌+◌, ◌-◌, ◌*◌, ◌%◌, ◌^◌, ◌<◌, ◌≤◌, Bool, true, false, refl, ap, ◌∙◌, arith}
use Rattle.std.specs.Prelude.{nat_lt}
use Rattle.std.proofs.lemmas.Bool.Decides.{nat_tests}
use Rattle.base.specs.Arithmetic.{sum32}
use Rattle.rv_machine.specs.Arithmetic.{sign_extended, even}
use Rattle.back_places.specs.Operands.{high_part, low_part}
use Rattle.back_places.specs.Selection.{branch_offset, jump_offset, far_offset, WithinBranch, WithinJump}
use Rattle.back_emission.proofs.Parts.{parts_sum}

near_13 : (n : ℕ) → n < 2 ^ 12 → sign_extended 13 n ≡ n
near_13 n h = grind (arith, nat_tests)

far_13 : (n : ℕ) → 2 ^ 12 ≤ n → sign_extended 13 n ≡ n + (2 ^ 32 - 2 ^ 13)
far_13 n h = grind (arith, nat_tests)

near_21 : (n : ℕ) → n < 2 ^ 20 → sign_extended 21 n ≡ n
near_21 n h = grind (arith, nat_tests)

far_21 : (n : ℕ) → 2 ^ 20 ≤ n → sign_extended 21 n ≡ n + (2 ^ 32 - 2 ^ 21)
far_21 n h = grind (arith, nat_tests)

pub branch_reaches :
    (from to : ℕ) → from < 2 ^ 24 → to < 2 ^ 24 → WithinBranch from to
    → sum32 (4 * from) (sign_extended 13 (branch_offset from to)) ≡ 4 * to
branch_reaches from to low low' h = by (nat_lt to from) refl
  where
    by : (t : Bool) → nat_lt to from ≡ t → sum32 (4 * from) (sign_extended 13 (branch_offset from to)) ≡ 4 * to
    by true e =
        let back : to < from = grind (arith, nat_tests, e) in
        let is : branch_offset from to ≡ 4 * to + 2 ^ 13 - 4 * from = omega (arith, back, low, low', h.before) in
        ap (λ x. sum32 (4 * from) (sign_extended 13 x)) is
        ∙ (ap (λ x. sum32 (4 * from) x) (far_13 (4 * to + 2 ^ 13 - 4 * from) (omega (arith, back, h.before)))
        ∙ omega (arith, back, low, low', h.before))
    by false e =
        let on : from ≤ to = grind (arith, nat_tests, e) in
        let is : branch_offset from to ≡ 4 * to - 4 * from = omega (arith, on, low, low', h.behind) in
        ap (λ x. sum32 (4 * from) (sign_extended 13 x)) is
        ∙ (ap (λ x. sum32 (4 * from) x) (near_13 (4 * to - 4 * from) (omega (arith, on, h.behind)))
        ∙ omega (arith, on, low, low', h.behind))

pub jump_reaches :
    (from to : ℕ) → from < 2 ^ 24 → to < 2 ^ 24 → WithinJump from to
    → sum32 (4 * from) (sign_extended 21 (jump_offset from to)) ≡ 4 * to
jump_reaches from to low low' h = by (nat_lt to from) refl
  where
    by : (t : Bool) → nat_lt to from ≡ t → sum32 (4 * from) (sign_extended 21 (jump_offset from to)) ≡ 4 * to
    by true e =
        let back : to < from = grind (arith, nat_tests, e) in
        let is : jump_offset from to ≡ 4 * to + 2 ^ 21 - 4 * from = omega (arith, back, low, low', h.before) in
        ap (λ x. sum32 (4 * from) (sign_extended 21 x)) is
        ∙ (ap (λ x. sum32 (4 * from) x) (far_21 (4 * to + 2 ^ 21 - 4 * from) (omega (arith, back, h.before)))
        ∙ omega (arith, back, low, low', h.before))
    by false e =
        let on : from ≤ to = grind (arith, nat_tests, e) in
        let is : jump_offset from to ≡ 4 * to - 4 * from = omega (arith, on, low, low', h.behind) in
        ap (λ x. sum32 (4 * from) (sign_extended 21 x)) is
        ∙ (ap (λ x. sum32 (4 * from) x) (near_21 (4 * to - 4 * from) (omega (arith, on, h.behind)))
        ∙ omega (arith, on, low, low', h.behind))

-- a jump to anywhere: the upper part of the offset onto the program counter, and then the lower one
pub far_reaches :
    (from to : ℕ) → from < 2 ^ 24 → to < 2 ^ 24
    → even (sum32 (sum32 (4 * from) (high_part (far_offset from to) * 4096)) (sign_extended 12 (low_part (far_offset from to)))) ≡ 4 * to
far_reaches from to low low' =
    let small : far_offset from to < 2 ^ 32 = omega arith in
    let parts = parts_sum (far_offset from to) small in
    let is : sum32 (sum32 (4 * from) (high_part (far_offset from to) * 4096)) (sign_extended 12 (low_part (far_offset from to))) ≡ (far_offset from to + 4 * from) % 2 ^ 32 = omega (arith, parts) in
    let there : (far_offset from to + 4 * from) % 2 ^ 32 ≡ 4 * to = omega (arith, low, low') in
    ap even (is ∙ there) ∙ omega arith

-- a jump to an address in a register
pub jumped_to : (r k : ℕ) → k < 2 ^ 25 → r ≡ 4 * k → even (sum32 r (sign_extended 12 0)) ≡ 4 * k
jumped_to r k small e = let x : sum32 r (sign_extended 12 0) ≡ 4 * k = omega (arith, e, small) in ap even x ∙ omega arith
