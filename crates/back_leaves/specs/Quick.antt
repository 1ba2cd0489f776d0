-- How primitives are applied quickly, kind by kind.
use Rattle.std.specs.Prelude.{ℕ, ◌+◌, List, [], ◌∷◌, ◌++◌}
use Rattle.lang_meaning.specs.declared.primitive.Primitive.{Primitive}
use Rattle.lang_meaning.specs.declared.primitive.Primitive.TheVariants as primitive
use Rattle.lang_meaning.specs.declared.program.LiteralRow.{LiteralRow}
use Rattle.flat_language.specs.FlatForm.{FlatForms}
use Rattle.mid_code.specs.declared.operation.Arithmetic.TheVariants as which
use Rattle.mid_code.specs.declared.operation.Comparison.TheVariants.{Equal, Different, Less, AtLeast}
use Rattle.mid_code.specs.declared.operation.Test.{Test}
use Rattle.mid_arena.specs.Tags.{nil_word, cons_tag}
use Rattle.mid_arena.specs.FixedWords.{true_address}
use Rattle.back_lowering.specs.declared.scope.SitePlace.{SitePlace}
use Rattle.back_lowering.specs.declared.placement.Placement.{Placement}
use Rattle.back_lowering.specs.Steps.{Steps, constant, compute, test_of, load_from}
use Rattle.back_lowering.specs.Primitives.{Judged, asked_integers, second_known, by_procedure, where_tag, where_likely_tag, where_integers, truth_where, sum_where, difference_where, cons_made, car_into, cdr_into, element_where, behind_first, comparison_judged, value_judged}
use Rattle.back_leaves.specs.declared.quick.Order.{Order}
use Rattle.back_leaves.specs.declared.quick.Order.TheVariants.{Straight, Swapped}
use Rattle.back_leaves.specs.declared.quick.Pair.{Pair}
use Rattle.back_leaves.specs.declared.quick.Comparing.{Comparing}
use Rattle.back_leaves.specs.declared.quick.Quick.{Quick}
use Rattle.back_leaves.specs.declared.quick.Quick.TheVariants as quick

abbrev pub quick_of : Primitive → Quick
quick_of primitive.Add = quick.Sum
quick_of primitive.Subtract = quick.Difference
quick_of primitive.NumberEqual = quick.Compares (record { how = Equal; order = Straight; so = record { first = 0; second = 0 }; other = record { first = 0; second = 1 } })
quick_of primitive.NumberNotEqual = quick.Compares (record { how = Different; order = Straight; so = record { first = 0; second = 1 }; other = record { first = 0; second = 0 } })
quick_of primitive.NumberLess = quick.Compares (record { how = Less; order = Straight; so = record { first = 0; second = 1 }; other = record { first = 1; second = 0 } })
quick_of primitive.NumberAtMost = quick.Compares (record { how = AtLeast; order = Swapped; so = record { first = 0; second = 1 }; other = record { first = 1; second = 0 } })
quick_of primitive.NumberGreater = quick.Compares (record { how = Less; order = Swapped; so = record { first = 1; second = 0 }; other = record { first = 0; second = 1 } })
quick_of primitive.NumberAtLeast = quick.Compares (record { how = AtLeast; order = Straight; so = record { first = 1; second = 0 }; other = record { first = 0; second = 1 } })
quick_of primitive.Same = quick.Same
quick_of primitive.IsNull = quick.IsNull
quick_of primitive.IsCons = quick.HasTag 1
quick_of primitive.IsInteger = quick.HasTag 0
quick_of primitive.Cons = quick.Cons
quick_of primitive.Car = quick.Car
quick_of primitive.Cdr = quick.Cdr
quick_of primitive.VectorRef = quick.Element
quick_of other = quick.ByProcedure

-- the test of a comparison of the arguments in d and the next register
abbrev pub compared : Comparing → (d : ℕ) → Test
compared c d = by c.order
  where
    by : Order → Test
    by Straight = test_of c.how d (d + 1)
    by Swapped = test_of c.how (d + 1) d

module _ (at : Placement) (literals : List LiteralRow) where
  -- the quick way, with the slow one
  abbrev pub applied : Quick → FlatForms → (d t : ℕ) → (slow : Steps) → Steps
  applied quick.Sum fs d t slow = where_integers (asked_integers at literals d fs) t (sum_where (second_known at literals fs) d t slow) slow
  applied quick.Difference fs d t slow = where_integers (asked_integers at literals d fs) t (difference_where (second_known at literals fs) d t slow) slow
  applied (quick.Compares c) fs d t slow =
      where_integers (asked_integers at literals d fs) t (truth_where c.how d (compared c d).first (compared c d).second) slow
  applied quick.Same fs d t slow = truth_where Equal d d (d + 1)
  applied quick.IsNull fs d t slow = constant t nil_word ∷ truth_where Equal d d t
  applied (quick.HasTag tag) fs d t slow = where_tag d t tag (load_from d d true_address) (constant d nil_word ∷ [])
  applied quick.Cons fs d t slow = cons_made d t
  applied quick.Car fs d t slow = where_likely_tag d t cons_tag (car_into d d) slow
  applied quick.Cdr fs d t slow = where_likely_tag d t cons_tag (cdr_into d d) slow
  applied quick.Element fs d t slow = element_where (asked_integers at literals (d + 1) (behind_first fs)) d t slow
  applied quick.ByProcedure fs d t slow = slow

  -- what is judged where a form branches on a primitive
  abbrev pub judged : Quick → FlatForms → (d t : ℕ) → (slow : Steps) → Judged
  judged (quick.Compares c) fs d t slow =
      comparison_judged (compared c d) (c.so.first, c.so.second) (c.other.first, c.other.second) (asked_integers at literals d fs) d t slow
  judged quick.Same fs d t slow = record { ready = []; test = test_of Equal d (d + 1) }
  judged quick.IsNull fs d t slow = record { ready = constant t nil_word ∷ []; test = test_of Equal d t }
  judged (quick.HasTag tag) fs d t slow =
      record { ready = constant t 3 ∷ compute t which.And d t ∷ constant (t + 1) tag ∷ []; test = test_of Equal t (t + 1) }
  judged quick.Sum fs d t slow =
      record { ready = applied quick.Sum fs d t slow ++ (value_judged d).ready; test = (value_judged d).test }
  judged quick.Difference fs d t slow =
      record { ready = applied quick.Difference fs d t slow ++ (value_judged d).ready; test = (value_judged d).test }
  judged quick.Cons fs d t slow =
      record { ready = applied quick.Cons fs d t slow ++ (value_judged d).ready; test = (value_judged d).test }
  judged quick.Car fs d t slow =
      record { ready = applied quick.Car fs d t slow ++ (value_judged d).ready; test = (value_judged d).test }
  judged quick.Cdr fs d t slow =
      record { ready = applied quick.Cdr fs d t slow ++ (value_judged d).ready; test = (value_judged d).test }
  judged quick.Element fs d t slow =
      record { ready = applied quick.Element fs d t slow ++ (value_judged d).ready; test = (value_judged d).test }
  judged quick.ByProcedure fs d t slow =
      record { ready = applied quick.ByProcedure fs d t slow ++ (value_judged d).ready; test = (value_judged d).test }
