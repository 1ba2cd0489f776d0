-- What primitives cost where they are called: their quick ways, and the slow one, which may stand there twice.
use Rattle.std.proofs.Common.{◌≡◌, ℕ, ◌+◌, ◌*◌, ◌≤◌, Bool, true, false, List, [], ◌∷◌, ◌++◌, Option, Some, None, arith}
use Rattle.std.specs.Prelude.{if◌then◌else◌, nat_lt}
use Rattle.lang_meaning.specs.declared.primitive.Primitive.{Primitive}
use Rattle.lang_meaning.specs.declared.primitive.Primitive.TheVariants as primitive
use Rattle.lang_meaning.specs.declared.program.LiteralRow.{LiteralRow}
use Rattle.lang_meaning.specs.Arity.{arity}
use Rattle.flat_language.specs.FlatForm.{FlatForms}
use Rattle.mid_code.specs.declared.operation.Comparison.{Comparison}
use Rattle.mid_code.specs.declared.operation.Comparison.TheVariants.{Equal, Different, Less, AtLeast, LessUnsigned}
use Rattle.mid_code.specs.declared.operation.Test.{Test}
use Rattle.mid_code.specs.declared.operation.Arithmetic.TheVariants as arithmetic
use Rattle.mid_code.specs.MidCode.{MidStep}
use Rattle.mid_arena.specs.CodeCosts.{step_cost}
use Rattle.mid_arena.specs.FixedWords.{true_address}
use Rattle.back_lowering.specs.declared.scope.SitePlace.{SitePlace}
use Rattle.back_lowering.specs.declared.placement.Placement.{Placement}
use Rattle.back_lowering.specs.Routines.{pending_routine}
use Rattle.back_lowering.specs.Steps.{Steps, move, constant, compute, load, call, test_of, where_so, if_true}
use Rattle.back_lowering.specs.Leaves.{site_stored}
use Rattle.back_lowering.specs.Primitives.{truth_where, where_integers, asked_integers, second_known, by_procedure, sum_where, difference_where, element_where, behind_first, apply_primitive, value_judged, comparison_judged, judge_primitive}
use Rattle.back_code_sizes.specs.Passed.{step_passes}
use Rattle.back_code_sizes.proofs.Costs.{cost, append_cost, load_from_cost}
use Rattle.back_code_sizes.proofs.Leaves.{site_cost}
use Rattle.back_code_sizes.proofs.Calls.{registers_count}

procedure_way_cost : (at : Placement) (which : Primitive) (count d : ℕ) (site : SitePlace) → cost (by_procedure at which count d site) ≤ 122 + 7 * count
procedure_way_cost at which count d site =
    omega (
      arith,
      append_cost (site_stored site d (d + 1)) (call d (pending_routine at) [] ∷ []),
      site_cost site d (d + 1),
      registers_count d count,
    )

truth_cost : (how : Comparison) (d a b : ℕ) → cost (truth_where how d a b) ≤ 36
truth_cost how d a b = omega (arith, load_from_cost d d true_address)

integers_cost : (asked : List ℕ) (t : ℕ) (first second : Steps) → cost (where_integers asked t first second) ≤ 48 + cost first + cost second
integers_cost [] t first second = omega arith
integers_cost (r ∷ []) t first second = omega arith
integers_cost (r ∷ q ∷ more) t first second = omega arith

step_if_cost :
    (n : ℕ) (b : Bool) (x y : MidStep) → step_cost x + step_passes x ≤ n → step_cost y + step_passes y ≤ n
    → step_cost (if b then x else y) + step_passes (if b then x else y) ≤ n
step_if_cost n true x y g h = g
step_if_cost n false x y g h = h

sum_cost : (second : Option ℕ) (d t : ℕ) (slow : Steps) → cost (sum_where second d t slow) ≤ 58 + cost slow
sum_cost None d t slow = omega arith
sum_cost (Some word) d t slow =
    let one =
    step_if_cost (22 + cost slow) (nat_lt word 2147483648) (where_so Less t d slow (move d t ∷ []))
    (where_so Less d t slow (move d t ∷ []))
    (omega arith) (omega arith) in
    omega (arith, one)

difference_cost : (second : Option ℕ) (d t : ℕ) (slow : Steps) → cost (difference_where second d t slow) ≤ 58 + cost slow
difference_cost None d t slow = omega arith
difference_cost (Some word) d t slow =
    let one =
    step_if_cost (22 + cost slow) (nat_lt word 2147483648) (where_so Less d t slow (move d t ∷ []))
    (where_so Less t d slow (move d t ∷ []))
    (omega arith) (omega arith) in
    omega (arith, one)

element_cost : (asked : List ℕ) (d t : ℕ) (slow : Steps) → cost (element_where asked d t slow) ≤ 192 + cost slow
element_cost asked d t slow =
    omega (
      arith,
      integers_cost asked (t + 1)
          (load (t + 1) d 2
          ∷ where_so LessUnsigned (d + 1) (t + 1) (compute (t + 1) arithmetic.Add d (d + 1) ∷ load d (t + 1) 6 ∷ constant t 0 ∷ []) [] ∷ [])
          [],
    )

-- a comparison in line, or by its procedure
compared_cost :
    (at : Placement) (p : Primitive) (asked : List ℕ) (how : Comparison) (count d a b t : ℕ) (site : SitePlace) → count ≡ 2
    → cost (where_integers asked t (truth_where how d a b) (by_procedure at p count d site)) ≤ 122 + 128 * count
compared_cost at p asked how count d a b t site e =
    omega (
      arith,
      e,
      procedure_way_cost at p count d site,
      truth_cost how d a b,
      integers_cost asked t (truth_where how d a b) (by_procedure at p count d site),
    )

-- where two integers compare, and else two words that compare as the procedure says
decided_cost :
    (at : Placement) (p : Primitive) (test : Test) (so other : ℕ × ℕ) (asked : List ℕ) (count d t : ℕ) (site : SitePlace) → count ≡ 2
    → cost (comparison_judged test so other asked d t (by_procedure at p count d site)).ready ≤ 128 + 128 * count
decided_cost at p test so other asked count d t site e =
    let slow = by_procedure at p count d site in
    let words = if_true d t (constant d so.0 ∷ constant (d + 1) so.1 ∷ []) (constant d other.0 ∷ constant (d + 1) other.1 ∷ []) in
    omega (arith, e, procedure_way_cost at p count d site, append_cost slow words, integers_cost asked t [] (slow ++ words))

module _ (at : Placement) (literals : List LiteralRow) where
  pub applied_cost :
      (p : Primitive) (fs : FlatForms) (count d : ℕ) (site : SitePlace) → count ≡ arity p
      → cost (apply_primitive at literals p fs count d site) ≤ 122 + 128 * count
  applied_cost primitive.Add fs count d site e =
      let slow = by_procedure at primitive.Add count d site in
      let quick = sum_where (second_known at literals fs) d (d + count) slow in
      omega (
        arith,
        e,
        procedure_way_cost at primitive.Add count d site,
        sum_cost (second_known at literals fs) d (d + count) slow,
        integers_cost (asked_integers at literals d fs) (d + count) quick slow,
      )
  applied_cost primitive.Subtract fs count d site e =
      let slow = by_procedure at primitive.Subtract count d site in
      let quick = difference_where (second_known at literals fs) d (d + count) slow in
      omega (
        arith,
        e,
        procedure_way_cost at primitive.Subtract count d site,
        difference_cost (second_known at literals fs) d (d + count) slow,
        integers_cost (asked_integers at literals d fs) (d + count) quick slow,
      )
  applied_cost primitive.NumberEqual fs count d site e =
      compared_cost at primitive.NumberEqual (asked_integers at literals d fs) Equal count d d (d + 1) (d + count) site e
  applied_cost primitive.NumberNotEqual fs count d site e =
      compared_cost at primitive.NumberNotEqual (asked_integers at literals d fs) Different count d d (d + 1) (d + count) site e
  applied_cost primitive.NumberLess fs count d site e =
      compared_cost at primitive.NumberLess (asked_integers at literals d fs) Less count d d (d + 1) (d + count) site e
  applied_cost primitive.NumberAtMost fs count d site e =
      compared_cost at primitive.NumberAtMost (asked_integers at literals d fs) AtLeast count d (d + 1) d (d + count) site e
  applied_cost primitive.NumberGreater fs count d site e =
      compared_cost at primitive.NumberGreater (asked_integers at literals d fs) Less count d (d + 1) d (d + count) site e
  applied_cost primitive.NumberAtLeast fs count d site e =
      compared_cost at primitive.NumberAtLeast (asked_integers at literals d fs) AtLeast count d d (d + 1) (d + count) site e
  applied_cost primitive.Same fs count d site e = omega (arith, truth_cost Equal d d (d + 1))
  applied_cost primitive.IsNull fs count d site e = omega (arith, truth_cost Equal d d (d + count))
  applied_cost primitive.IsCons fs count d site e = omega (arith, load_from_cost d d true_address)
  applied_cost primitive.IsInteger fs count d site e = omega (arith, load_from_cost d d true_address)
  applied_cost primitive.Cons fs count d site e = omega arith
  applied_cost primitive.Car fs count d site e = omega (arith, e, procedure_way_cost at primitive.Car count d site)
  applied_cost primitive.Cdr fs count d site e = omega (arith, e, procedure_way_cost at primitive.Cdr count d site)
  applied_cost primitive.VectorRef fs count d site e =
      omega (
        arith,
        e,
        procedure_way_cost at primitive.VectorRef count d site,
        element_cost (asked_integers at literals (d + 1) (behind_first fs)) d (d + count) (by_procedure at primitive.VectorRef count d site),
      )
  applied_cost p fs count d site e = omega (arith, procedure_way_cost at p count d site)

  -- what is judged where a form branches on it
  pub judged_cost :
      (p : Primitive) (fs : FlatForms) (count d : ℕ) (site : SitePlace) → count ≡ arity p
      → cost (judge_primitive at literals p fs count d site).ready ≤ 128 + 128 * count
  judged_cost primitive.NumberEqual fs count d site e =
      decided_cost at primitive.NumberEqual (test_of Equal d (d + 1)) (0, 0) (0, 1) (asked_integers at literals d fs) count d (d + count) site e
  judged_cost primitive.NumberNotEqual fs count d site e =
      decided_cost at primitive.NumberNotEqual (test_of Different d (d + 1)) (0, 1) (0, 0) (asked_integers at literals d fs) count d (d + count) site e
  judged_cost primitive.NumberLess fs count d site e =
      decided_cost at primitive.NumberLess (test_of Less d (d + 1)) (0, 1) (1, 0) (asked_integers at literals d fs) count d (d + count) site e
  judged_cost primitive.NumberGreater fs count d site e =
      decided_cost at primitive.NumberGreater (test_of Less (d + 1) d) (1, 0) (0, 1) (asked_integers at literals d fs) count d (d + count) site e
  judged_cost primitive.NumberAtMost fs count d site e =
      decided_cost at primitive.NumberAtMost (test_of AtLeast (d + 1) d) (0, 1) (1, 0) (asked_integers at literals d fs) count d (d + count) site e
  judged_cost primitive.NumberAtLeast fs count d site e =
      decided_cost at primitive.NumberAtLeast (test_of AtLeast d (d + 1)) (1, 0) (0, 1) (asked_integers at literals d fs) count d (d + count) site e
  judged_cost primitive.Same fs count d site e = omega arith
  judged_cost primitive.IsNull fs count d site e = omega arith
  judged_cost primitive.IsCons fs count d site e = omega arith
  judged_cost primitive.IsInteger fs count d site e = omega arith
  judged_cost p fs count d site e =
      omega (
        arith,
        append_cost (apply_primitive at literals p fs count d site) (value_judged d).ready,
        applied_cost p fs count d site e,
      )
