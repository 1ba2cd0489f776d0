-- The eight registers of a primitive: what stands in them where some were set.
use Rattle.std.proofs.Common.{◌≡◌, ℕ, ◌<◌, [], ◌∷◌, length, Option, Some, refl, ap, ◌∙◌, arith}
use Rattle.std.specs.Prelude.{slice_set}
use Rattle.std.proofs.Math.ListN.{length-set}
use Rattle.mid_code.specs.Arena.{word_in}
use Rattle.mid_code.specs.State.{Registers, register}
use Rattle.mid_arena.proofs.Lists.{set_here, set_elsewhere}

-- a register that was set, one beside it, and how many there are
pub register_here : (rs : Registers) (i w : ℕ) → i < length rs → register i (slice_set rs i (Some w)) ≡ Some w
register_here rs i w h = ap word_in (set_here rs i (Some w) h)

pub register_beside : (rs : Registers) (i j : ℕ) (w : Option ℕ) → (i ≡ j → ⊥) → register j (slice_set rs i w) ≡ register j rs
register_beside rs i j w h = ap word_in (set_elsewhere rs i j w h)

pub same_size : (rs : Registers) (i : ℕ) (w : Option ℕ) → length rs ≡ 8 → length (slice_set rs i w) ≡ 8
same_size rs i w h = length-set rs i w ∙ h

-- the eight registers of a primitive
pub data EightRegisters : Registers → Type 0 where
  eight : (r0 r1 r2 r3 r4 r5 r6 r7 : Option ℕ) → EightRegisters (r0 ∷ r1 ∷ r2 ∷ r3 ∷ r4 ∷ r5 ∷ r6 ∷ r7 ∷ [])

pub eight_registers : (rs : Registers) → length rs ≡ 8 → EightRegisters rs
eight_registers (r0 ∷ r1 ∷ r2 ∷ r3 ∷ r4 ∷ r5 ∷ r6 ∷ r7 ∷ []) e = eight r0 r1 r2 r3 r4 r5 r6 r7
eight_registers w e = absurd (omega arith)

-- What some steps do with registers 6 and 7: the others are as they were.
pub record Scratched (rs rs' : Registers) : Type 0 where
  pub size : length rs' ≡ 8
  pub others : (i : ℕ) → i < 6 → register i rs' ≡ register i rs

pub scratched_six : (rs rs' : Registers) (w : Option ℕ) → Scratched rs rs' → Scratched rs (slice_set rs' 6 w)
scratched_six rs rs' w s = record {
  size = same_size rs' 6 w s.size;
  others = λ i h. register_beside rs' 6 i w (omega arith) ∙ s.others i h;
}

pub scratched_seven : (rs rs' : Registers) (w : Option ℕ) → Scratched rs rs' → Scratched rs (slice_set rs' 7 w)
scratched_seven rs rs' w s = record {
  size = same_size rs' 7 w s.size;
  others = λ i h. register_beside rs' 7 i w (omega arith) ∙ s.others i h;
}

pub not_scratched : (rs : Registers) → length rs ≡ 8 → Scratched rs rs
not_scratched rs size = record { size = size; others = λ i h. refl }

-- the two registers that a test looks at
pub six_here : (rs : Registers) (w : ℕ) → length rs ≡ 8 → register 6 (slice_set rs 6 (Some w)) ≡ Some w
six_here rs w size = register_here rs 6 w (omega (arith, size))

pub seven_behind_six : (rs : Registers) (v w : ℕ) → length rs ≡ 8 → register 7 (slice_set (slice_set rs 7 (Some v)) 6 (Some w)) ≡ Some v
seven_behind_six rs v w size = register_beside (slice_set rs 7 (Some v)) 6 7 (Some w) (omega arith) ∙ register_here rs 7 v (omega (arith, size))

-- eight registers of which the last two were used: the others are as they were
pub record LastTwo (r0 r1 r2 r3 r4 r5 : Option ℕ) (rs : Registers) : Type 0 where
  pub six : Option ℕ
  pub seven : Option ℕ
  pub same : rs ≡ r0 ∷ r1 ∷ r2 ∷ r3 ∷ r4 ∷ r5 ∷ six ∷ seven ∷ []

pub last_two :
    {r0 r1 r2 r3 r4 r5 r6 r7 : Option ℕ} {rs : Registers} → Scratched (r0 ∷ r1 ∷ r2 ∷ r3 ∷ r4 ∷ r5 ∷ r6 ∷ r7 ∷ []) rs → LastTwo r0 r1 r2 r3 r4 r5 rs
last_two {r0} {r1} {r2} {r3} {r4} {r5} {r6} {r7} {rs} s = by rs (eight_registers rs s.size) s
  where
    by : (rs : Registers) → EightRegisters rs → Scratched (r0 ∷ r1 ∷ r2 ∷ r3 ∷ r4 ∷ r5 ∷ r6 ∷ r7 ∷ []) rs → LastTwo r0 r1 r2 r3 r4 r5 rs
    by rs (eight q0 q1 q2 q3 q4 q5 q6 q7) s =
        let e0 : q0 ≡ r0 = s.others 0 (omega arith) in
        let e1 : q1 ≡ r1 = s.others 1 (omega arith) in
        let e2 : q2 ≡ r2 = s.others 2 (omega arith) in
        let e3 : q3 ≡ r3 = s.others 3 (omega arith) in
        let e4 : q4 ≡ r4 = s.others 4 (omega arith) in
        let e5 : q5 ≡ r5 = s.others 5 (omega arith) in
        record { six = q6; seven = q7; same = cc }
