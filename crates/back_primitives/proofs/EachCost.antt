-- What the code of each primitive is: it calls nothing, and what it costs where it makes a condition is paid.
use Rattle.std.proofs.Common.{◌≡◌, ℕ, zero, suc, ◌+◌, ◌*◌, ◌≤◌, Bool, true, false, refl, arith}
use Rattle.std.specs.Prelude.{◌&&◌, nat_le, if◌then◌else◌}
use Rattle.std.proofs.lemmas.Bool.Decides.{nat_tests}
use Rattle.lang_meaning.specs.Arity.{arity}
use Rattle.lang_meaning.specs.declared.primitive.Primitive.{Primitive}
use Rattle.lang_meaning.specs.declared.primitive.Primitive.TheVariants.{Add, Subtract, NumberEqual, NumberNotEqual, NumberLess, NumberAtMost, NumberGreater}
use Rattle.lang_meaning.specs.declared.primitive.Primitive.TheVariants.{NumberAtLeast, Car}
use Rattle.lang_meaning.specs.declared.primitive.Primitive.TheVariants.{Cdr, VectorRef}
use Rattle.lang_meaning.specs.Counts.{unit_cost}
use Rattle.mid_code.specs.MidCode.{code_of}
use Rattle.mid_arena.specs.CodeCosts.{procedure_cost, cost_of}
use Rattle.mid_arena.specs.Codes.{procedure_of, code_of_primitive}
use Rattle.mid_arena.specs.Steps.{hand_over, signal, domain_error, need_header, class_by_header, class_of_object, class_word}
use Rattle.mid_arena.proofs.EachPrimitive.{each_costs}
use Rattle.back_primitives.proofs.Costs.{is_plain, loops_of, repeated, both_true}

pub each_plain : (which : Primitive) → is_plain (code_of (code_of_primitive which)) ≡ true
unfolding hand_over signal domain_error need_header class_by_header class_of_object class_word
each_plain Add = refl
each_plain which = refl

-- what the loops of its code cost
abbrev pub loop_costs : Primitive → ℕ
loop_costs which = loops_of (code_of (code_of_primitive which))

paid_told :
    (which : Primitive)
    → (nat_le (procedure_cost (procedure_of which) + 3 * loop_costs which + 6 * arity which) (780 + 300 * arity which) && nat_le (loop_costs which) 300) ≡ true
unfolding hand_over signal domain_error need_header class_by_header class_of_object class_word
paid_told Add = refl
paid_told which = refl

at_most_told : (a b : ℕ) → nat_le a b ≡ true → a ≤ b
at_most_told a b e = grind (arith, nat_tests)

told_apart :
    (a b c : ℕ) → (nat_le a b && nat_le c 300) ≡ true → (a ≤ b) × (c ≤ 300)
told_apart a b c e = let two = both_true (nat_le a b) (nat_le c 300) e in (at_most_told a b two.0, at_most_told c 300 two.1)

paid_both :
    (which : Primitive)
    → (procedure_cost (procedure_of which) + 3 * loop_costs which + 6 * arity which ≤ 780 + 300 * arity which) × (loop_costs which ≤ 300)
paid_both which =
    told_apart (procedure_cost (procedure_of which) + 3 * loop_costs which + 6 * arity which) (780 + 300 * arity which) (loop_costs which) (paid_told which)

same_paid : (a b c n : ℕ) → a ≡ b → a + 3 * c + 6 * n ≤ 780 + 300 * n → b + 3 * c + 6 * n ≤ 780 + 300 * n
same_paid a b c n e h = omega (arith, e, h)

pub each_paid : (which : Primitive) → cost_of which + 3 * loop_costs which + 6 * arity which ≤ 780 + 300 * arity which
each_paid which = same_paid (procedure_cost (procedure_of which)) (cost_of which) (loop_costs which) (arity which) (each_costs which) (paid_both which).0

pub loops_small : (which : Primitive) → loop_costs which ≤ 300
loops_small which = (paid_both which).1

-- primitives that have a quick way
abbrev pub is_quick : Primitive → Bool
is_quick Add = true
is_quick Subtract = true
is_quick NumberEqual = true
is_quick NumberNotEqual = true
is_quick NumberLess = true
is_quick NumberAtMost = true
is_quick NumberGreater = true
is_quick NumberAtLeast = true
is_quick Car = true
is_quick Cdr = true
is_quick VectorRef = true
is_quick which = false

quick_told :
    (which : Primitive)
    → nat_le (procedure_cost (procedure_of which) + 3 * loop_costs which + 6 * arity which) (if is_quick which then 690 + 256 * arity which else 10000) ≡ true
unfolding hand_over signal domain_error need_header class_by_header class_of_object class_word
quick_told Add = refl
quick_told which = refl

quick_at_most : (b : Bool) (a n : ℕ) → b ≡ true → nat_le a (if b then 690 + 256 * n else 10000) ≡ true → a ≤ 690 + 256 * n
quick_at_most true a n e h = at_most_told a (690 + 256 * n) h
quick_at_most false a n e h = absurd (cc e)

quick_same : (a b c n : ℕ) → a ≡ b → a + 3 * c + 6 * n ≤ 690 + 256 * n → b + 3 * c + 6 * n ≤ 690 + 256 * n
quick_same a b c n e h = omega (arith, e, h)

pub quick_paid : (which : Primitive) → is_quick which ≡ true → cost_of which + 3 * loop_costs which + 6 * arity which ≤ 690 + 256 * arity which
quick_paid which quick =
    quick_same (procedure_cost (procedure_of which)) (cost_of which) (loop_costs which) (arity which) (each_costs which)
    (quick_at_most (is_quick which) (procedure_cost (procedure_of which) + 3 * loop_costs which + 6 * arity which) (arity which) quick (quick_told which))

-- turns of loops are paid by units, but for the first three
pub repeated_paid : (n cost : ℕ) → cost ≤ 300 → 3 ≤ n → repeated n cost + 3 * unit_cost ≤ 3 * cost + unit_cost * n
repeated_paid zero cost small h = absurd (omega arith)
repeated_paid (suc zero) cost small h = absurd (omega arith)
repeated_paid (suc (suc zero)) cost small h = absurd (omega arith)
repeated_paid (suc (suc (suc zero))) cost small h = omega arith
repeated_paid (suc (suc (suc (suc n)))) cost small h =
    let rest = repeated_paid (suc (suc (suc n))) cost small (omega arith) in omega (arith, rest, small)
