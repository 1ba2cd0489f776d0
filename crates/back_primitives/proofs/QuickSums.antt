-- Quick ways of sums and differences: a word is computed, and tells with the others whether it is right.
use Rattle.std.proofs.Common.{◌≡◌, ℕ, zero, suc, ◌+◌, ◌^◌, ◌<◌, ◌≤◌, ℤ, pos, Bool, true, false, [], ◌∷◌, length, Option, Some, None, refl, sym, ap, ◌∙◌, subst, arith}
use Rattle.std.specs.Prelude.{negsuc, ◌+ℤ◌, ◌-ℤ◌, neg_ℤ, slice_set, ◌==◌, not, nat_lt, int_lt, if◌then◌else◌}
use Rattle.std.proofs.lemmas.Bool.Decides.{nat_tests}
use Rattle.std.proofs.lemmas.Int.{ints}
use Rattle.std.proofs.Math.ListN.{length-set}
use borrow.Author.Differences.{up, down, true_is_lt, false_is_lt}
use Rattle.base.specs.Arithmetic.{less_signed, one_if_less_signed}
use Rattle.lang_meaning.specs.Arity.{arity}
use Rattle.lang_meaning.specs.declared.primitive.Primitive.{Primitive}
use Rattle.lang_meaning.specs.declared.primitive.Primitive.TheVariants.{Add, Subtract}
use Rattle.lang_meaning.specs.Objects.{integer_overflow_class}
use Rattle.lang_meaning.specs.Primitives.{result, fails, integer_result, primitive}
use Rattle.lang_meaning.specs.Values.{Value, integer, in_range}
use Rattle.flat_language.specs.FlatForm.{FlatForm, no_form, form_and}
use Rattle.flat_language.specs.FlatNodes.{tables}
use Rattle.flat_language.specs.FlatState.{FlatEvaluated}
use Rattle.mid_code.specs.declared.operation.Arithmetic.{Arithmetic}
use Rattle.mid_code.specs.declared.operation.Arithmetic.TheVariants as how
use Rattle.mid_code.specs.declared.operation.Comparison.TheVariants.{Less}
use Rattle.mid_code.specs.Meaning.{Context, exec}
use Rattle.mid_code.specs.MidCode.{code_of}
use Rattle.mid_code.specs.State.{Registers, register, MidState}
use Rattle.mid_code.specs.State.{charged as mid_charged}
use Rattle.mid_code.specs.Words.{computed}
use Rattle.mid_arena.specs.Tags.{integer_word}
use Rattle.mid_arena.proofs.Arguments.{integer_word_there}
use Rattle.mid_arena.proofs.ArithmeticSum.{bit_of, sum_is, difference_is, sum_in_range, change_in_range, rise_in_range}
use Rattle.mid_arena.proofs.Registers.{register_here, register_beside}
use Rattle.mid_arena.proofs.Running.{and_then, none_left, costing, constant_falls, compute_known, move_falls}
use Rattle.mid_arena.proofs.WordFacts.{integer_word_of_pos, integer_word_of_negsuc, range_tells, integers_compare_less}
use Rattle.back_lowering.specs.Primitives.{sum_where, difference_where, known_integer}
use Rattle.back_lowering.specs.Registers.{of_code, enough_for}
use Rattle.back_lowering.specs.Steps.{Steps, move, compute, constant, where_so, if_likely_equal}
use Rattle.back_relation.specs.Setting.{Setting}
use Rattle.back_relation.specs.Forms.{Begins, code_at}
use Rattle.back_relation.specs.Starts.{Start, EndsAt}
use Rattle.back_primitives.specs.Applying.{Applies}
use Rattle.back_primitives.specs.Calling.{KnownWords}
use Rattle.back_primitives.proofs.Answered.{SignalPaid}
use Rattle.back_primitives.proofs.Choosing.{Beside, beside_none, beside_set, beside_less, beside_then, register_kept, start_beside, quick_ends, Chosen, chosen_ends, compared, compared_likely, in_sum}
use Rattle.back_primitives.proofs.EachCost.{is_quick, quick_paid}
use Rattle.back_primitives.proofs.Quick.{named, branches_named, start_with, meant, slow}
use Rattle.back_primitives.proofs.QuickNumbers.{DoesThere, ofIntegers, up_meant, slowly_does, meant_at}

-- ---- what the words tell

from_zero : (b : Bool) → (0 == bit_of b) ≡ not b
from_zero true = refl
from_zero false = refl

small_positive : (j : ℤ) → in_range j ≡ true → nat_lt (integer_word j) 2147483648 ≡ true → int_lt j (pos 0) ≡ false
small_positive (pos n) r e = sym (false_is_lt (pos n) (pos 0) (omega (arith, ints)))
small_positive (negsuc n) r e =
    let range = range_tells (negsuc n) r in
    let word = integer_word_of_negsuc n (omega (arith, range.1)) in
    let low : integer_word (negsuc n) < 2147483648 = grind (arith, nat_tests) in
    absurd (omega (arith, word, low, range.1))

great_negative : (j : ℤ) → in_range j ≡ true → nat_lt (integer_word j) 2147483648 ≡ false → int_lt (pos 0) j ≡ false
great_negative (pos n) r e =
    let range = range_tells (pos n) r in
    let word = integer_word_of_pos n (omega (arith, range.0)) in
    let high : 2147483648 ≤ integer_word (pos n) = grind (arith, nat_tests) in
    absurd (omega (arith, word, high, range.0))
great_negative (negsuc n) r e = sym (false_is_lt (pos 0) (negsuc n) (omega (arith, ints)))

-- a sum whose second part is known is right where it does not fall, or does not rise
sum_positive :
    (i j : ℤ) → in_range i ≡ true → in_range j ≡ true → int_lt j (pos 0) ≡ false → less_signed (integer_word (i +ℤ j)) (integer_word i) ≡ not (in_range (i +ℤ j))
sum_positive i j r s positive = turned _ _ (sym (from_zero (less_signed (integer_word (i +ℤ j)) (integer_word i))) ∙ tells)
  where
    range : (up j < 2 ^ 29 + down j) × (down j ≤ 2 ^ 29 + up j)
    range = range_tells j s

    tells : (0 == bit_of (less_signed (integer_word (i +ℤ j)) (integer_word i))) ≡ in_range (i +ℤ j)
    tells =
        ap (λ b. bit_of b == one_if_less_signed (integer_word (i +ℤ j)) (integer_word i)) (sym positive)
        ∙ change_in_range i j r (omega (arith, range.0)) range.1

    turned : (b b' : Bool) → not b ≡ b' → b ≡ not b'
    turned true b' e = ap not e
    turned false b' e = ap not e

sum_negative :
    (i j : ℤ) → in_range i ≡ true → in_range j ≡ true → int_lt (pos 0) j ≡ false → less_signed (integer_word i) (integer_word (i +ℤ j)) ≡ not (in_range (i +ℤ j))
sum_negative i j r s negative = turned _ _ (sym (from_zero (less_signed (integer_word i) (integer_word (i +ℤ j)))) ∙ tells)
  where
    range : (up j < 2 ^ 29 + down j) × (down j ≤ 2 ^ 29 + up j)
    range = range_tells j s

    tells : (0 == bit_of (less_signed (integer_word i) (integer_word (i +ℤ j)))) ≡ in_range (i +ℤ j)
    tells =
        ap (λ b. bit_of b == one_if_less_signed (integer_word i) (integer_word (i +ℤ j))) (sym negative)
        ∙ rise_in_range i j r (omega (arith, range.0)) range.1

    turned : (b b' : Bool) → not b ≡ b' → b ≡ not b'
    turned true b' e = ap not e
    turned false b' e = ap not e

-- and a difference
negated_range : (j : ℤ) → in_range j ≡ true → (up (neg_ℤ j) ≤ 2 ^ 29 + down (neg_ℤ j)) × (down (neg_ℤ j) ≤ 2 ^ 29 + up (neg_ℤ j))
negated_range j s = let range = range_tells j s in (omega (arith, ints, range.1), omega (arith, ints, range.0))

not_positive : (j : ℤ) → int_lt j (pos 0) ≡ false → int_lt (pos 0) (neg_ℤ j) ≡ false
not_positive (pos n) e = sym (false_is_lt (pos 0) (neg_ℤ (pos n)) (omega (arith, ints)))
not_positive (negsuc n) e = let less : int_lt (negsuc n) (pos 0) ≡ true = sym (true_is_lt (negsuc n) (pos 0) (omega (arith, ints))) in absurd (cc (sym e ∙ less))

not_negative : (j : ℤ) → int_lt (pos 0) j ≡ false → int_lt (neg_ℤ j) (pos 0) ≡ false
not_negative (negsuc n) e = sym (false_is_lt (neg_ℤ (negsuc n)) (pos 0) (omega (arith, ints)))
not_negative (pos zero) e = refl
not_negative (pos (suc n)) e = let less : int_lt (pos 0) (pos (suc n)) ≡ true = sym (true_is_lt (pos 0) (pos (suc n)) (omega (arith, ints))) in absurd (cc (sym e ∙ less))

difference_positive :
    (i j : ℤ) → in_range i ≡ true → in_range j ≡ true → int_lt j (pos 0) ≡ false → less_signed (integer_word i) (integer_word (i -ℤ j)) ≡ not (in_range (i -ℤ j))
difference_positive i j r s positive = turned _ _ (sym (from_zero (less_signed (integer_word i) (integer_word (i -ℤ j)))) ∙ tells)
  where
    tells : (0 == bit_of (less_signed (integer_word i) (integer_word (i -ℤ j)))) ≡ in_range (i -ℤ j)
    tells =
        let range = negated_range j s in
        ap (λ b. bit_of b == one_if_less_signed (integer_word i) (integer_word (i -ℤ j))) (sym (not_positive j positive))
        ∙ rise_in_range i (neg_ℤ j) r range.0 range.1

    turned : (b b' : Bool) → not b ≡ b' → b ≡ not b'
    turned true b' e = ap not e
    turned false b' e = ap not e

difference_negative :
    (i j : ℤ) → in_range i ≡ true → in_range j ≡ true → int_lt (pos 0) j ≡ false → less_signed (integer_word (i -ℤ j)) (integer_word i) ≡ not (in_range (i -ℤ j))
difference_negative i j r s negative = turned _ _ (sym (from_zero (less_signed (integer_word (i -ℤ j)) (integer_word i))) ∙ tells)
  where
    tells : (0 == bit_of (less_signed (integer_word (i -ℤ j)) (integer_word i))) ≡ in_range (i -ℤ j)
    tells =
        let range = negated_range j s in
        ap (λ b. bit_of b == one_if_less_signed (integer_word (i -ℤ j)) (integer_word i)) (sym (not_negative j negative))
        ∙ change_in_range i (neg_ℤ j) r range.0 range.1

    turned : (b b' : Bool) → not b ≡ b' → b ≡ not b'
    turned true b' e = ap not e
    turned false b' e = ap not e

-- a difference of which nothing is known falls just where the second is positive
below_zero_turned : (j : ℤ) → int_lt (neg_ℤ j) (pos 0) ≡ int_lt (pos 0) j
below_zero_turned (pos zero) = refl
below_zero_turned (pos (suc n)) =
    sym (true_is_lt (neg_ℤ (pos (suc n))) (pos 0) (omega (arith, ints))) ∙ true_is_lt (pos 0) (pos (suc n)) (omega (arith, ints))
below_zero_turned (negsuc n) =
    sym (false_is_lt (neg_ℤ (negsuc n)) (pos 0) (omega (arith, ints))) ∙ false_is_lt (pos 0) (negsuc n) (omega (arith, ints))

difference_told :
    (i j : ℤ) → in_range i ≡ true → in_range j ≡ true
    → (one_if_less_signed 0 (integer_word j) == one_if_less_signed (integer_word (i -ℤ j)) (integer_word i)) ≡ in_range (i -ℤ j)
difference_told i j r s =
    let range = negated_range j s in
    let zero_less : less_signed 0 (integer_word j) ≡ int_lt (pos 0) j =
    ap (λ w. less_signed w (integer_word j)) (sym (integer_word_of_pos 0 (omega arith))) ∙ integers_compare_less (pos 0) j refl s in
    ap (λ b. bit_of b == one_if_less_signed (integer_word (i -ℤ j)) (integer_word i)) (zero_less ∙ sym (below_zero_turned j))
    ∙ change_in_range i (neg_ℤ j) r range.0 range.1

sum_told :
    (i j : ℤ) → in_range i ≡ true → in_range j ≡ true
    → (one_if_less_signed (integer_word j) 0 == one_if_less_signed (integer_word (i +ℤ j)) (integer_word i)) ≡ in_range (i +ℤ j)
sum_told i j r s =
    ap (λ w. one_if_less_signed (integer_word j) 0 == one_if_less_signed w (integer_word i)) (sym (sum_is i j)) ∙ sum_in_range i j r s

-- ---- what the code does

module _ (setting : Setting) (k : ℕ) (a : Start setting) (which : Primitive) (v1 v2 : Value) (w1 w2 : ℕ) (f1 f2 : FlatForm)
    (g : Applies setting k a which (v1 ∷ v2 ∷ []) (w1 ∷ w2 ∷ []))
    (known : KnownWords setting.at setting.program.literals (form_and f1 (form_and f2 no_form)) (w1 ∷ w2 ∷ []))
    (quick : is_quick which ≡ true) (arity_two : arity which ≡ 2)
    (operation : Arithmetic) (i j m : ℤ) (is_first : v1 ≡ integer i) (is_second : v2 ≡ integer j) (first_in : in_range i ≡ true) (second_in : in_range j ≡ true)
    (first_word : w1 ≡ integer_word i) (second_word : w2 ≡ integer_word j) (result_word : computed operation (integer_word i) (integer_word j) ≡ integer_word m)
    (answers : primitive setting.names (tables setting.program) which (integer i ∷ integer j ∷ []) a.z.state ≡ integer_result m a.z.state)
  where
    abbrev c : Context
    c = code_at setting k a.turns

    abbrev t : ℕ
    t = a.d + 2

    abbrev slowly : Steps
    slowly = slow setting k a which (v1 ∷ v2 ∷ []) (w1 ∷ w2 ∷ []) g

    abbrev the_meaning : FlatEvaluated
    the_meaning = meant setting k a which (v1 ∷ v2 ∷ []) (w1 ∷ w2 ∷ []) g

    abbrev moves : Steps
    moves = move a.d t ∷ []

    up_to : a.z.state.units ≤ the_meaning.state.state.units
    up_to = up_meant setting k a which v1 v2 w1 w2 f1 f2 g known

    paid_slowly : SignalPaid which 804
    paid_slowly = let cost = quick_paid which quick in (omega arith, omega (arith, cost, arity_two))

    -- the word was computed, and is right
    moved :
        {credit : ℕ} → in_range m ≡ true → 6 ≤ credit → (regs : Registers) (y : MidState)
        (begins : Begins setting a.rs a.valid a.s a.d a.n a.w a.env a.around a.z regs y) → register t regs ≡ Some (integer_word m)
        → EndsAt setting credit (start_with setting a regs y begins) the_meaning (exec c (code_of moves) regs y)
    moved {credit} right enough regs y begins held =
        subst (λ o. EndsAt setting credit (start_with setting a regs y begins) o (exec c (code_of moves) regs y))
        (meant_at setting k a which v1 v2 w1 w2 f1 f2 g known i j (result (integer m) a.z.state) is_first is_second
        (answers ∙ ap (λ b. if b then result (integer m) a.z.state else fails integer_overflow_class [] a.z.state) right))
        (quick_ends setting (start_with setting a regs y begins) c (code_of moves) (slice_set regs a.d (Some (integer_word m))) 6 (integer_word m) (integer m)
        (costing {n = y.cost + 6} (and_then (move_falls held) none_left) (omega arith)) (beside_set a.d (integer_word m) (omega arith) (beside_none a.d regs))
        (register_here regs a.d (integer_word m) begins.first) (integer_word_there a.w.places m right) enough)

    -- what was chosen is done
    chosen_way :
        {most : ℕ} {code : Steps} (first second : Steps) (b : Bool) (regs : Registers) (y : MidState)
        (begins : Begins setting a.rs a.valid a.s a.d a.n a.w a.env a.around a.z regs y) → Beside (a.d + 2) a.regs regs
        → (h : Chosen setting c regs y t most code first second b) → most ≤ 50
        → EndsAt setting 804 (start_with setting a h.regs' (mid_charged h.cost y) (start_beside setting (start_with setting a regs y begins) h.regs' h.cost (beside_less (omega arith) h.beside)).begins)
        the_meaning (exec c (code_of (if b then first else second)) h.regs' (mid_charged h.cost y))
        → EndsAt setting 854 (start_with setting a regs y begins) the_meaning (exec c (code_of code) regs y)
    chosen_way first second b regs y begins beside h few e =
        chosen_ends setting {c1 = 804} (start_with setting a regs y begins) c h (omega arith) the_meaning up_to (omega (arith, few)) e

    -- ---- nothing is known of the second

    -- the second's sign is asked by two registers
    abbrev with_signs : (p q : ℕ) → Steps
    with_signs p q =
        compute t operation a.d (a.d + 1) ∷ constant (t + 1) 0 ∷ compute (t + 1) how.Less p q ∷ compute (t + 2) how.Less t a.d
        ∷ if_likely_equal (t + 1) (t + 2) moves slowly ∷ []

    -- where registers are computed and tested
    abbrev HoldsResult : (regs : Registers) (y : MidState) (code first second : Steps) (b : Bool) → Type 0
    HoldsResult regs y code first second b = (h : Chosen setting c regs y t 50 code first second b) × (register t h.regs' ≡ Some (integer_word m))

    signs_chosen :
        (p q u u' : ℕ) → ((regs : Registers) → register (a.d + 1) regs ≡ Some w2 → register (t + 1) regs ≡ Some 0 → (register p regs ≡ Some u) × (register q regs ≡ Some u'))
        → (one_if_less_signed u u' == one_if_less_signed (integer_word m) (integer_word i)) ≡ in_range m
        → (regs : Registers) (y : MidState) → t + 2 < length regs → register a.d regs ≡ Some w1 → register (a.d + 1) regs ≡ Some w2
        → HoldsResult regs y (with_signs p q) moves slowly (in_range m)
    signs_chosen p q u u' reads tells regs y there one two =
        let r1 : Registers = slice_set regs t (Some (integer_word m)) in
        let r2 : Registers = slice_set r1 (t + 1) (Some 0) in
        let r3 : Registers = slice_set r2 (t + 1) (Some (one_if_less_signed u u')) in
        let falls : ℕ = one_if_less_signed (integer_word m) (integer_word i) in
        let r4 : Registers = slice_set r3 (t + 2) (Some falls) in
        let n1 : length r1 ≡ length regs = length-set regs t (Some (integer_word m)) in
        let n2 : length r2 ≡ length r1 = length-set r1 (t + 1) (Some 0) in
        let n3 : length r3 ≡ length r2 = length-set r2 (t + 1) (Some (one_if_less_signed u u')) in
        let computes : computed operation w1 w2 ≡ integer_word m =
        ap (λ w. computed operation w w2) first_word ∙ ap (λ w. computed operation (integer_word i) w) second_word ∙ result_word in
        let two_later : register (a.d + 1) r2 ≡ Some w2 =
        register_beside r1 (t + 1) (a.d + 1) (Some 0) (λ e. omega (arith, e)) ∙ register_beside regs t (a.d + 1) (Some (integer_word m)) (λ e. omega (arith, e)) ∙ two in
        let signs = reads r2 two_later (register_here r1 (t + 1) 0 (omega (arith, there, n1))) in
        let result_later : register t r3 ≡ Some (integer_word m) =
        register_beside r2 (t + 1) t (Some (one_if_less_signed u u')) (λ e. omega (arith, e)) ∙ register_beside r1 (t + 1) t (Some 0) (λ e. omega (arith, e))
        ∙ register_here regs t (integer_word m) (omega (arith, there)) in
        let one_later : register a.d r3 ≡ Some (integer_word i) =
        register_beside r2 (t + 1) a.d (Some (one_if_less_signed u u')) (λ e. omega (arith, e)) ∙ register_beside r1 (t + 1) a.d (Some 0) (λ e. omega (arith, e))
        ∙ register_beside regs t a.d (Some (integer_word m)) (λ e. omega (arith, e)) ∙ one ∙ ap (λ w. Some w) first_word in
        let sign_last : register (t + 1) r4 ≡ Some (one_if_less_signed u u') =
        register_beside r3 (t + 2) (t + 1) (Some falls) (λ e. omega (arith, e)) ∙ register_here r2 (t + 1) (one_if_less_signed u u') (omega (arith, there, n1, n2)) in
        let falls_last : register (t + 2) r4 ≡ Some falls = register_here r3 (t + 2) falls (omega (arith, there, n1, n2, n3)) in (
          record {
            regs' = r4;
            cost = 48;
            run =
                in_sum 48 (code_of (if in_range m then moves else slowly)) r4 (mid_charged 12 (mid_charged 10 (mid_charged 10 (mid_charged 6 (mid_charged 10 y)))))
                (and_then (compute_known one two computes)
                (and_then constant_falls
                (and_then (compute_known signs.0 signs.1 refl)
                (and_then (compute_known result_later one_later refl)
                (compared_likely c (t + 1) (t + 2) (one_if_less_signed u u') falls moves slowly (in_range m) r4
                (mid_charged 10 (mid_charged 10 (mid_charged 6 (mid_charged 10 y)))) sign_last falls_last tells)))))
                refl (omega arith);
            beside =
                beside_set (t + 2) falls (omega arith)
                (beside_set (t + 1) (one_if_less_signed u u') (omega arith)
                (beside_set (t + 1) 0 (omega arith) (beside_set t (integer_word m) (omega arith) (beside_none t regs))));
            within = omega arith;
          },
          register_beside r3 (t + 2) t (Some falls) (λ e. omega (arith, e)) ∙ result_later,
        )

    -- the result is moved, or the slow way is taken
    right_or_slow :
        {code : Steps} (regs : Registers) (y : MidState) (begins : Begins setting a.rs a.valid a.s a.d a.n a.w a.env a.around a.z regs y) → Beside (a.d + 2) a.regs regs
        → enough_for (of_code (code_of slowly)) ≤ length a.regs → HoldsResult regs y code moves slowly (in_range m)
        → EndsAt setting 854 (start_with setting a regs y begins) the_meaning (exec c (code_of code) regs y)
    right_or_slow regs y begins beside enough h =
        chosen_way moves slowly (in_range m) regs y begins beside h.0 (omega arith) (by (in_range m) refl)
      where
        by : (b : Bool) → in_range m ≡ b
            → EndsAt setting 804 (start_with setting a h.0.regs' (mid_charged h.0.cost y)
            (start_beside setting (start_with setting a regs y begins) h.0.regs' h.0.cost (beside_less (omega arith) h.0.beside)).begins)
            the_meaning (exec c (code_of (if b then moves else slowly)) h.0.regs' (mid_charged h.0.cost y))
        by true right =
            moved right (omega arith) h.0.regs' (mid_charged h.0.cost y)
            (start_beside setting (start_with setting a regs y begins) h.0.regs' h.0.cost (beside_less (omega arith) h.0.beside)).begins h.1
        by false wrong =
            slowly_does setting k a which v1 v2 w1 w2 f1 f2 g known (omega (arith, arity_two)) paid_slowly h.0.regs' (mid_charged h.0.cost y)
            (start_beside setting (start_with setting a regs y begins) h.0.regs' h.0.cost (beside_less (omega arith) h.0.beside)).begins (beside_then beside h.0.beside) enough

    slow_or_right :
        {code : Steps} (regs : Registers) (y : MidState) (begins : Begins setting a.rs a.valid a.s a.d a.n a.w a.env a.around a.z regs y) → Beside (a.d + 2) a.regs regs
        → enough_for (of_code (code_of slowly)) ≤ length a.regs → HoldsResult regs y code slowly moves (not (in_range m))
        → EndsAt setting 854 (start_with setting a regs y begins) the_meaning (exec c (code_of code) regs y)
    slow_or_right regs y begins beside enough h =
        chosen_way slowly moves (not (in_range m)) regs y begins beside h.0 (omega arith) (by (in_range m) refl)
      where
        by : (b : Bool) → in_range m ≡ b
            → EndsAt setting 804 (start_with setting a h.0.regs' (mid_charged h.0.cost y)
            (start_beside setting (start_with setting a regs y begins) h.0.regs' h.0.cost (beside_less (omega arith) h.0.beside)).begins)
            the_meaning (exec c (code_of (if not b then slowly else moves)) h.0.regs' (mid_charged h.0.cost y))
        by true right =
            moved right (omega arith) h.0.regs' (mid_charged h.0.cost y)
            (start_beside setting (start_with setting a regs y begins) h.0.regs' h.0.cost (beside_less (omega arith) h.0.beside)).begins h.1
        by false wrong =
            slowly_does setting k a which v1 v2 w1 w2 f1 f2 g known (omega (arith, arity_two)) paid_slowly h.0.regs' (mid_charged h.0.cost y)
            (start_beside setting (start_with setting a regs y begins) h.0.regs' h.0.cost (beside_less (omega arith) h.0.beside)).begins (beside_then beside h.0.beside) enough

    pub unknown_does :
        (p q u u' : ℕ) → ((regs : Registers) → register (a.d + 1) regs ≡ Some w2 → register (t + 1) regs ≡ Some 0 → (register p regs ≡ Some u) × (register q regs ≡ Some u'))
        → (one_if_less_signed u u' == one_if_less_signed (integer_word m) (integer_word i)) ≡ in_range m
        → DoesThere setting k a which v1 v2 w1 w2 f1 f2 g known 854 (with_signs p q)
    unknown_does p q u u' reads tells regs y begins beside names =
        let there : t + 2 < length a.regs = named (of_code (code_of (with_signs p q))) 7 (t + 2) (length a.regs) refl names in
        let parts = branches_named (t ∷ a.d ∷ (a.d + 1) ∷ (t + 1) ∷ (t + 1) ∷ p ∷ q ∷ (t + 2) ∷ t ∷ a.d ∷ (t + 1) ∷ (t + 2) ∷ []) (of_code (code_of slowly)) (of_code (code_of moves))
        (length a.regs) names in
        right_or_slow regs y begins beside parts.0
        (signs_chosen p q u u' reads tells regs y (omega (arith, there, beside.count)) (register_kept a.d (omega arith) beside ∙ g.in_registers.0)
        (register_kept (a.d + 1) (omega arith) beside ∙ g.in_registers.1.0))

    -- ---- the second is known

    abbrev with_order : (p q : ℕ) → Steps
    with_order p q = compute t operation a.d (a.d + 1) ∷ where_so Less p q slowly moves ∷ []

    order_chosen :
        (p q u u' : ℕ)
        → ((regs : Registers) → register a.d regs ≡ Some (integer_word i) → register t regs ≡ Some (integer_word m) → (register p regs ≡ Some u) × (register q regs ≡ Some u'))
        → less_signed u u' ≡ not (in_range m) → (regs : Registers) (y : MidState) → t < length regs → register a.d regs ≡ Some w1 → register (a.d + 1) regs ≡ Some w2
        → HoldsResult regs y (with_order p q) slowly moves (not (in_range m))
    order_chosen p q u u' reads tells regs y there one two =
        let r1 : Registers = slice_set regs t (Some (integer_word m)) in
        let computes : computed operation w1 w2 ≡ integer_word m =
        ap (λ w. computed operation w w2) first_word ∙ ap (λ w. computed operation (integer_word i) w) second_word ∙ result_word in
        let one_later : register a.d r1 ≡ Some (integer_word i) =
        register_beside regs t a.d (Some (integer_word m)) (λ e. omega (arith, e)) ∙ one ∙ ap (λ w. Some w) first_word in
        let result_later : register t r1 ≡ Some (integer_word m) = register_here regs t (integer_word m) there in
        let both = reads r1 one_later result_later in (
          record {
            regs' = r1;
            cost = 22;
            run =
                in_sum 22 (code_of (if not (in_range m) then slowly else moves)) r1 (mid_charged 12 (mid_charged 10 y))
                (and_then (compute_known one two computes)
                (compared c Less p q u u' slowly moves (not (in_range m)) r1 (mid_charged 10 y) both.0 both.1 tells))
                refl (omega arith);
            beside = beside_set t (integer_word m) (omega arith) (beside_none t regs);
            within = omega arith;
          },
          result_later,
        )

    pub known_does :
        (p q u u' : ℕ)
        → ((regs : Registers) → register a.d regs ≡ Some (integer_word i) → register t regs ≡ Some (integer_word m) → (register p regs ≡ Some u) × (register q regs ≡ Some u'))
        → less_signed u u' ≡ not (in_range m) → DoesThere setting k a which v1 v2 w1 w2 f1 f2 g known 854 (with_order p q)
    known_does p q u u' reads tells regs y begins beside names =
        let there : t < length a.regs = named (of_code (code_of (with_order p q))) 0 t (length a.regs) refl names in
        let parts = branches_named (t ∷ a.d ∷ (a.d + 1) ∷ p ∷ q ∷ []) (of_code (code_of slowly)) (of_code (code_of moves)) (length a.regs) names in
        slow_or_right regs y begins beside parts.0
        (order_chosen p q u u' reads tells regs y (omega (arith, there, beside.count)) (register_kept a.d (omega arith) beside ∙ g.in_registers.0)
        (register_kept (a.d + 1) (omega arith) beside ∙ g.in_registers.1.0))

-- ---- sums and differences

module _ (setting : Setting) (k : ℕ) (a : Start setting) (v1 v2 : Value) (w1 w2 : ℕ) (f1 f2 : FlatForm)
    (known : KnownWords setting.at setting.program.literals (form_and f1 (form_and f2 no_form)) (w1 ∷ w2 ∷ [])) where
  pub sums_do :
      (g : Applies setting k a Add (v1 ∷ v2 ∷ []) (w1 ∷ w2 ∷ []))
      → ofIntegers setting k a Add v1 v2 w1 w2 f1 f2 g known 854
      (sum_where (known_integer setting.at setting.program.literals f2) a.d (a.d + 2) (slow setting k a Add (v1 ∷ v2 ∷ []) (w1 ∷ w2 ∷ []) g))
  sums_do g i j e f r s x x' = by (known_integer setting.at setting.program.literals f2) refl
    where
      by : (o : Option ℕ) → known_integer setting.at setting.program.literals f2 ≡ o
          → DoesThere setting k a Add v1 v2 w1 w2 f1 f2 g known 854 (sum_where o a.d (a.d + 2) (slow setting k a Add (v1 ∷ v2 ∷ []) (w1 ∷ w2 ∷ []) g))
      by None same =
          unknown_does setting k a Add v1 v2 w1 w2 f1 f2 g known refl refl how.Add i j (i +ℤ j) e f r s x x' (sum_is i j) refl
          (a.d + 1) (a.d + 2 + 1) w2 0 (λ regs two zero. (two, zero))
          (ap (λ w. one_if_less_signed w 0 == one_if_less_signed (integer_word (i +ℤ j)) (integer_word i)) x' ∙ sum_told i j r s)
      by (Some u) same = sign (nat_lt u 2147483648) refl
        where
          word_is : nat_lt (integer_word j) 2147483648 ≡ nat_lt u 2147483648
          word_is = ap (λ w. nat_lt w 2147483648) (sym x' ∙ known.1.0 u same)

          sign : (b : Bool) → nat_lt u 2147483648 ≡ b
              → DoesThere setting k a Add v1 v2 w1 w2 f1 f2 g known 854
              (compute (a.d + 2) how.Add a.d (a.d + 1)
              ∷ (if b then where_so Less (a.d + 2) a.d (slow setting k a Add (v1 ∷ v2 ∷ []) (w1 ∷ w2 ∷ []) g) (move a.d (a.d + 2) ∷ [])
              else where_so Less a.d (a.d + 2) (slow setting k a Add (v1 ∷ v2 ∷ []) (w1 ∷ w2 ∷ []) g) (move a.d (a.d + 2) ∷ [])) ∷ [])
          sign true low =
              known_does setting k a Add v1 v2 w1 w2 f1 f2 g known refl refl how.Add i j (i +ℤ j) e f r s x x' (sum_is i j) refl
              (a.d + 2) a.d (integer_word (i +ℤ j)) (integer_word i) (λ regs one result. (result, one)) (sum_positive i j r s (small_positive j s (word_is ∙ low)))
          sign false high =
              known_does setting k a Add v1 v2 w1 w2 f1 f2 g known refl refl how.Add i j (i +ℤ j) e f r s x x' (sum_is i j) refl
              a.d (a.d + 2) (integer_word i) (integer_word (i +ℤ j)) (λ regs one result. (one, result)) (sum_negative i j r s (great_negative j s (word_is ∙ high)))

  pub differences_do :
      (g : Applies setting k a Subtract (v1 ∷ v2 ∷ []) (w1 ∷ w2 ∷ []))
      → ofIntegers setting k a Subtract v1 v2 w1 w2 f1 f2 g known 854
      (difference_where (known_integer setting.at setting.program.literals f2) a.d (a.d + 2) (slow setting k a Subtract (v1 ∷ v2 ∷ []) (w1 ∷ w2 ∷ []) g))
  differences_do g i j e f r s x x' = by (known_integer setting.at setting.program.literals f2) refl
    where
      by : (o : Option ℕ) → known_integer setting.at setting.program.literals f2 ≡ o
          → DoesThere setting k a Subtract v1 v2 w1 w2 f1 f2 g known 854 (difference_where o a.d (a.d + 2) (slow setting k a Subtract (v1 ∷ v2 ∷ []) (w1 ∷ w2 ∷ []) g))
      by None same =
          unknown_does setting k a Subtract v1 v2 w1 w2 f1 f2 g known refl refl how.Subtract i j (i -ℤ j) e f r s x x' (difference_is i j) refl
          (a.d + 2 + 1) (a.d + 1) 0 w2 (λ regs two zero. (zero, two))
          (ap (λ w. one_if_less_signed 0 w == one_if_less_signed (integer_word (i -ℤ j)) (integer_word i)) x' ∙ difference_told i j r s)
      by (Some u) same = sign (nat_lt u 2147483648) refl
        where
          word_is : nat_lt (integer_word j) 2147483648 ≡ nat_lt u 2147483648
          word_is = ap (λ w. nat_lt w 2147483648) (sym x' ∙ known.1.0 u same)

          sign : (b : Bool) → nat_lt u 2147483648 ≡ b
              → DoesThere setting k a Subtract v1 v2 w1 w2 f1 f2 g known 854
              (compute (a.d + 2) how.Subtract a.d (a.d + 1)
              ∷ (if b then where_so Less a.d (a.d + 2) (slow setting k a Subtract (v1 ∷ v2 ∷ []) (w1 ∷ w2 ∷ []) g) (move a.d (a.d + 2) ∷ [])
              else where_so Less (a.d + 2) a.d (slow setting k a Subtract (v1 ∷ v2 ∷ []) (w1 ∷ w2 ∷ []) g) (move a.d (a.d + 2) ∷ [])) ∷ [])
          sign true low =
              known_does setting k a Subtract v1 v2 w1 w2 f1 f2 g known refl refl how.Subtract i j (i -ℤ j) e f r s x x' (difference_is i j) refl
              a.d (a.d + 2) (integer_word i) (integer_word (i -ℤ j)) (λ regs one result. (one, result)) (difference_positive i j r s (small_positive j s (word_is ∙ low)))
          sign false high =
              known_does setting k a Subtract v1 v2 w1 w2 f1 f2 g known refl refl how.Subtract i j (i -ℤ j) e f r s x x' (difference_is i j) refl
              (a.d + 2) a.d (integer_word (i -ℤ j)) (integer_word i) (λ regs one result. (result, one)) (difference_negative i j r s (great_negative j s (word_is ∙ high)))
