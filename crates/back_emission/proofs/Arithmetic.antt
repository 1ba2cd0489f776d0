-- What instructions compute is what operations compute; branches; the test for room.
use Rattle.std.proofs.Common.{◌≡◌, ℕ, suc, ◌+◌, ◌-◌, ◌*◌, ◌/◌, ◌%◌, ◌^◌, ◌<◌, ◌≤◌, Bool, true, false, Some, None, refl, sym, ap, ◌∙◌, arith}
use Rattle.std.specs.Prelude.{not, ◌==◌, nat_lt, pos, negsuc, int_lt, if◌then◌else◌}
use Rattle.std.specs.Int.{w32}
use Rattle.std.proofs.lemmas.Bool.Decides.{nat_tests}
use Rattle.std.proofs.lemmas.Int.{to_z_pos}
use Rattle.base.specs.Arithmetic.{sum32, difference32, signed, less_signed, shift_right_signed, one_if_less_signed, one_if_less}
use Rattle.rv_encode.specs.declared.instruction.Instr.{Instr}
use Rattle.rv_encode.specs.declared.instruction.Instr.TheVariants.{Addi, Slti, Sltiu, Xori, Ori, Andi, Slli, Srli, Srai}
use Rattle.rv_machine.specs.State.{State, register}
use Rattle.rv_machine.specs.Step.{execute, gives, branch}
use Rattle.rv_machine.specs.Arithmetic.{sign_extended}
use Rattle.mid_code.specs.Words.{computed, compares}
use Rattle.mid_code.specs.declared.operation.Arithmetic.{Arithmetic}
use Rattle.mid_code.specs.declared.operation.Arithmetic.TheVariants as which
use Rattle.mid_code.specs.declared.operation.Comparison.{Comparison}
use Rattle.mid_code.specs.declared.operation.Comparison.TheVariants as comparison
use Rattle.back_places.specs.Operands.{low_part, is_short}
use Rattle.back_places.specs.Selection.{arithmetic_of, with_short, immediate_of, branch_where, branch_unless}
use Rattle.back_emission.proofs.Parts.{short_is}

pub arithmetic_same : (o : Arithmetic) (to a b : ℕ) (s : State) → execute (arithmetic_of o to a b) s ≡ gives to (computed o (register s a) (register s b)) s
arithmetic_same which.Add to a b s = refl
arithmetic_same which.Subtract to a b s = refl
arithmetic_same which.Multiply to a b s = refl
arithmetic_same which.MultiplyHigh to a b s = refl
arithmetic_same which.Divide to a b s = refl
arithmetic_same which.Remainder to a b s = refl
arithmetic_same which.And to a b s = refl
arithmetic_same which.Or to a b s = refl
arithmetic_same which.ExclusiveOr to a b s = refl
arithmetic_same which.ShiftLeft to a b s = refl
arithmetic_same which.ShiftRight to a b s = refl
arithmetic_same which.ShiftRightSigned to a b s = refl
arithmetic_same which.Less to a b s = refl
arithmetic_same which.LessUnsigned to a b s = refl

-- an instruction with a word in it computes the same with that word
short_given : (make : ℕ → Instr) (w : ℕ) (i : Instr) → with_short make w ≡ Some i → (is_short w ≡ true) × (make (low_part w) ≡ i)
short_given make w i h = by (is_short w) refl h
  where
    by : (t : Bool) → is_short w ≡ t → (if t then Some (make (low_part w)) else None) ≡ Some i → (is_short w ≡ true) × (make (low_part w) ≡ i)
    by true e k = (e, cc k)
    by false e k = absurd (cc k)

by_short :
    (make : ℕ → Instr) (f : ℕ → ℕ) (to w : ℕ) (i : Instr) (s : State) → w < 2 ^ 32
    → ((k : ℕ) → execute (make k) s ≡ gives to (f (sign_extended 12 k)) s) → with_short make w ≡ Some i → execute i s ≡ gives to (f w) s
by_short make f to w i s small does h =
    let g = short_given make w i h in
    ap (λ x. execute x s) (sym g.1) ∙ does (low_part w) ∙ ap (λ x. gives to (f x) s) (short_is w small g.0)

twice : (w : ℕ) → w % 32 % 32 ≡ w % 32
twice w = omega arith

pub immediate_same :
    (o : Arithmetic) (to a w : ℕ) (i : Instr) (s : State) → w < 2 ^ 32 → immediate_of o to a w ≡ Some i
    → execute i s ≡ gives to (computed o (register s a) w) s
unfolding shift_right_signed
immediate_same which.Add to a w i s small h = by_short (Addi to a) (λ x. sum32 (register s a) x) to w i s small (λ k. refl) h
immediate_same which.Subtract to a w i s small h =
    let same : sum32 (register s a) ((2 ^ 32 - w) % 2 ^ 32) ≡ difference32 (register s a) w = omega (arith, small) in
    by_short (Addi to a) (λ x. sum32 (register s a) x) to ((2 ^ 32 - w) % 2 ^ 32) i s (omega arith) (λ k. refl) h ∙ ap (λ x. gives to x s) same
immediate_same which.Multiply to a w i s small h = absurd (cc h)
immediate_same which.MultiplyHigh to a w i s small h = absurd (cc h)
immediate_same which.Divide to a w i s small h = absurd (cc h)
immediate_same which.Remainder to a w i s small h = absurd (cc h)
immediate_same which.And to a w i s small h = by_short (Andi to a) (λ x. computed which.And (register s a) x) to w i s small (λ k. refl) h
immediate_same which.Or to a w i s small h = by_short (Ori to a) (λ x. computed which.Or (register s a) x) to w i s small (λ k. refl) h
immediate_same which.ExclusiveOr to a w i s small h = by_short (Xori to a) (λ x. computed which.ExclusiveOr (register s a) x) to w i s small (λ k. refl) h
immediate_same which.ShiftLeft to a w i s small h =
    let is : Slli to a (w % 32) ≡ i = cc h in
    ap (λ x. execute x s) (sym is) ∙ ap (λ n. gives to (register s a * 2 ^ n % 2 ^ 32) s) (twice w)
immediate_same which.ShiftRight to a w i s small h =
    let is : Srli to a (w % 32) ≡ i = cc h in
    ap (λ x. execute x s) (sym is) ∙ ap (λ n. gives to (register s a / 2 ^ n) s) (twice w)
immediate_same which.ShiftRightSigned to a w i s small h =
    let is : Srai to a (w % 32) ≡ i = cc h in
    ap (λ x. execute x s) (sym is) ∙ shifted
  where
    shifted : gives to (shift_right_signed (register s a) (w % 32)) s ≡ gives to (shift_right_signed (register s a) w) s
    shifted = let e = twice w in rw e refl
immediate_same which.Less to a w i s small h = by_short (Slti to a) (λ x. one_if_less_signed (register s a) x) to w i s small (λ k. refl) h
immediate_same which.LessUnsigned to a w i s small h = by_short (Sltiu to a) (λ x. one_if_less (register s a) x) to w i s small (λ k. refl) h

not_not : (t : Bool) → not (not t) ≡ t
not_not true = refl
not_not false = refl

-- a branch is taken where the test does not hold, or where it does
pub branch_unless_same : (c : Comparison) (a b offset : ℕ) (s : State) → execute (branch_unless c a b offset) s ≡ branch (not (compares c (register s a) (register s b))) offset s
branch_unless_same comparison.Equal a b offset s = refl
branch_unless_same comparison.Different a b offset s = ap (λ t. branch t offset s) (sym (not_not (register s a == register s b)))
branch_unless_same comparison.Less a b offset s = refl
branch_unless_same comparison.AtLeast a b offset s = ap (λ t. branch t offset s) (sym (not_not (less_signed (register s a) (register s b))))
branch_unless_same comparison.LessUnsigned a b offset s = refl
branch_unless_same comparison.AtLeastUnsigned a b offset s = ap (λ t. branch t offset s) (sym (not_not (nat_lt (register s a) (register s b))))

pub branch_where_same : (c : Comparison) (a b offset : ℕ) (s : State) → execute (branch_where c a b offset) s ≡ branch (compares c (register s a) (register s b)) offset s
branch_where_same comparison.Equal a b offset s = refl
branch_where_same comparison.Different a b offset s = refl
branch_where_same comparison.Less a b offset s = refl
branch_where_same comparison.AtLeast a b offset s = refl
branch_where_same comparison.LessUnsigned a b offset s = refl
branch_where_same comparison.AtLeastUnsigned a b offset s = refl

-- the test for room: with a stack of at most 2 ^ 26 bytes and a block of at most as many, both as signed numbers
signed_small : (n : ℕ) → n < 2 ^ 31 → signed n ≡ pos n
signed_small n h = to_z_pos w32 n h

less_small : (a b : ℕ) → a < 2 ^ 31 → b < 2 ^ 31 → less_signed a b ≡ nat_lt a b
less_small a b h k = ap (λ x. int_lt x (signed b)) (signed_small a h) ∙ ap (λ x. int_lt (pos a) x) (signed_small b k)

is_negative : (a b : ℕ) (t : Bool) → t ≡ false → int_lt (if t then pos a else negsuc (4294967296 - suc a)) (pos b) ≡ true
is_negative a b true e = absurd (cc e)
is_negative a b false e = refl

less_negative : (a b : ℕ) → 2 ^ 31 ≤ a → a < 2 ^ 32 → b < 2 ^ 31 → less_signed a b ≡ true
less_negative a b h h' k = ap (λ x. int_lt (signed a) x) (signed_small b k) ∙ is_negative a b (nat_lt a 2147483648) (grind (arith, nat_tests, h))

-- Where so many words are left, the stack pointer below them is no less than the heap's end, as signed numbers; else it is less.
pub room_test :
    (sp hp words : ℕ) → hp ≤ sp → sp ≤ 2 ^ 26 → words ≤ 2 ^ 24 + 2
    → less_signed ((sp + (2 ^ 32 - 4 * words)) % 2 ^ 32) hp ≡ nat_lt sp (hp + 4 * words)
room_test sp hp words above small block = by (nat_lt sp (4 * words)) refl
  where
    by : (t : Bool) → nat_lt sp (4 * words) ≡ t → less_signed ((sp + (2 ^ 32 - 4 * words)) % 2 ^ 32) hp ≡ nat_lt sp (hp + 4 * words)
    by true e =
        let under : sp < 4 * words = grind (arith, nat_tests, e) in
        let is : (sp + (2 ^ 32 - 4 * words)) % 2 ^ 32 ≡ sp + (2 ^ 32 - 4 * words) = omega (arith, under, block) in
        let none : nat_lt sp (hp + 4 * words) ≡ true = grind (arith, nat_tests, under) in
        ap (λ x. less_signed x hp) is ∙ less_negative (sp + (2 ^ 32 - 4 * words)) hp (omega (arith, block)) (omega (arith, under)) (omega (arith, above, small)) ∙ sym none
    by false e =
        let over : 4 * words ≤ sp = grind (arith, nat_tests, e) in
        let is : (sp + (2 ^ 32 - 4 * words)) % 2 ^ 32 ≡ sp - 4 * words = omega (arith, over, small) in
        let same : nat_lt (sp - 4 * words) hp ≡ nat_lt sp (hp + 4 * words) = grind (arith, nat_tests, over) in
        ap (λ x. less_signed x hp) is ∙ less_small (sp - 4 * words) hp (omega (arith, small)) (omega (arith, above, small)) ∙ same
