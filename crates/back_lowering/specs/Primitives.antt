-- The code of primitives where they are called: what is quick is done in line, and the rest by the procedure of the primitive. And the
-- tests that are judged at once where a form branches on what a primitive says.
use Rattle.std.specs.Prelude.{ℕ, ◌+◌, ◌%◌, ◌==◌, Bool, true, false, nat_lt, pos, negsuc, List, [], ◌∷◌, ◌++◌, Option, Some, None, slice_get, if◌then◌else◌}
use Rattle.lang_meaning.specs.declared.primitive.Primitive.{Primitive}
use Rattle.lang_meaning.specs.declared.primitive.Primitive.TheVariants as primitive
use Rattle.lang_meaning.specs.declared.program.LiteralRow.{LiteralRow}
use Rattle.lang_meaning.specs.declared.program.LiteralRow.TheVariants as row
use Rattle.lang_meaning.specs.model.ShapeCode.{primitive_number}
use Rattle.flat_language.specs.FlatForm.{FlatForm, literal, FlatForms, no_form, form_and}
use Rattle.mid_code.specs.declared.operation.Arithmetic.TheVariants as which
use Rattle.mid_code.specs.declared.operation.Comparison.{Comparison}
use Rattle.mid_code.specs.declared.operation.Comparison.TheVariants.{Equal, Different, Less, AtLeast, LessUnsigned}
use Rattle.mid_code.specs.declared.operation.Operation.TheVariants.{Load}
use Rattle.mid_code.specs.declared.operation.Test.{Test}
use Rattle.mid_code.specs.MidCode.{perform}
use Rattle.mid_arena.specs.Tags.{nil_word, signal_word, cons_tag, object_tag, vector_header}
use Rattle.mid_arena.specs.FixedWords.{true_address}
use Rattle.back_lowering.specs.Scope.{registers_from}
use Rattle.back_lowering.specs.declared.scope.SitePlace.{SitePlace}
use Rattle.back_lowering.specs.Placement.{primitives_from, literal_word}
use Rattle.back_lowering.specs.declared.placement.Placement.{Placement}
use Rattle.back_lowering.specs.Routines.{pending_routine}
use Rattle.back_lowering.specs.Steps.{Steps, move, constant, compute, load, store, load_header, request, call, test_of, where_so, if_equal, if_different, if_likely_equal, if_true, load_from}
use Rattle.back_lowering.specs.Leaves.{site_stored}

-- t or nil in d, as two registers compare
abbrev pub truth_where : Comparison → (d a b : ℕ) → Steps
truth_where how d a b = where_so how a b (load_from d d true_address) (constant d nil_word ∷ []) ∷ []

-- the two lowest bits of a word in t are these: then the first, else the second; t and the next one are used
abbrev pub where_tag : (of t tag : ℕ) → (first second : Steps) → Steps
where_tag of t tag first second =
    constant t 3 ∷ compute t which.And of t ∷ constant (t + 1) tag ∷ if_equal t (t + 1) first second ∷ []

-- the same where these are likely
abbrev pub where_likely_tag : (of t tag : ℕ) → (likely other : Steps) → Steps
where_likely_tag of t tag likely other =
    constant t 3 ∷ compute t which.And of t ∷ constant (t + 1) tag ∷ if_likely_equal t (t + 1) likely other ∷ []

-- the words in these registers are integers, which is likely, and asked of two at once; t and the next one are used
abbrev pub where_integers : (asked : List ℕ) → (t : ℕ) → (first second : Steps) → Steps
where_integers [] t first second = first
where_integers (r ∷ []) t first second = where_likely_tag r t 0 first second
where_integers (r ∷ q ∷ more) t first second =
    compute t which.Or r q ∷ constant (t + 1) 3 ∷ compute t which.And t (t + 1) ∷ constant (t + 1) 0
    ∷ if_likely_equal t (t + 1) first second ∷ []

-- the word of an integer that a literal is
abbrev pub integer_in : Placement → ℕ → Option LiteralRow → Option ℕ
integer_in at i (Some (row.Datum d)) = if literal_word at i % 4 == 0 then Some (literal_word at i) else None
integer_in at i other = None

module _ (at : Placement) (literals : List LiteralRow) where
  abbrev pub known_integer : FlatForm → Option ℕ
  known_integer (literal i) = integer_in at i (slice_get literals i)
  known_integer f = None

  -- the registers, from d on, of those arguments of which it is not known that they are integers
  abbrev pub asked_integers : (d : ℕ) → FlatForms → List ℕ
  asked_integers d no_form = []
  asked_integers d (form_and f fs) = asked_where d (known_integer f) (asked_integers (d + 1) fs)
    where
      asked_where : ℕ → Option ℕ → List ℕ → List ℕ
      asked_where d (Some word) more = more
      asked_where d None more = d ∷ more

  -- the second of two arguments, where it is known
  abbrev pub second_known : FlatForms → Option ℕ
  second_known (form_and f (form_and g fs)) = known_integer g
  second_known fs = None

-- a primitive is applied to the words in registers from d on by its procedure. Where it answers that a condition is to be signalled, it is.
abbrev pub by_procedure : Placement → Primitive → (count d : ℕ) → SitePlace → Steps
by_procedure at which count d site =
    call d (primitives_from at + primitive_number which) (registers_from d count)
    ∷ constant (d + 1) signal_word
    ∷ if_equal d (d + 1) (site_stored site d (d + 1) ++ (call d (pending_routine at) [] ∷ [])) []
    ∷ []

-- quick ways, where arguments are in registers from d on, and t and those behind it are free; the slow way has its result in d too

-- A sum of integers is right where it is less than the first just where the second is negative. Of a second one that is known, one of
-- both is known.
abbrev pub sum_where : (second : Option ℕ) → (d t : ℕ) → (slow : Steps) → Steps
sum_where (Some word) d t slow =
    compute t which.Add d (d + 1)
    ∷ (if nat_lt word 2147483648 then where_so Less t d slow (move d t ∷ []) else where_so Less d t slow (move d t ∷ [])) ∷ []
sum_where None d t slow =
    compute t which.Add d (d + 1) ∷ constant (t + 1) 0 ∷ compute (t + 1) which.Less (d + 1) (t + 1) ∷ compute (t + 2) which.Less t d
    ∷ if_likely_equal (t + 1) (t + 2) (move d t ∷ []) slow ∷ []

-- and a difference where it is less than the first just where the second is positive
abbrev pub difference_where : (second : Option ℕ) → (d t : ℕ) → (slow : Steps) → Steps
difference_where (Some word) d t slow =
    compute t which.Subtract d (d + 1)
    ∷ (if nat_lt word 2147483648 then where_so Less d t slow (move d t ∷ []) else where_so Less t d slow (move d t ∷ [])) ∷ []
difference_where None d t slow =
    compute t which.Subtract d (d + 1) ∷ constant (t + 1) 0 ∷ compute (t + 1) which.Less (t + 1) (d + 1) ∷ compute (t + 2) which.Less t d
    ∷ if_likely_equal (t + 1) (t + 2) (move d t ∷ []) slow ∷ []

-- the parts of a cons, from a pointer to it
abbrev pub car_into : (to pointer : ℕ) → Steps
car_into to pointer = perform (Load to pointer (negsuc 0)) ∷ []

abbrev pub cdr_into : (to pointer : ℕ) → Steps
cdr_into to pointer = load to pointer 3 ∷ []

abbrev pub cons_made : (d t : ℕ) → Steps
cons_made d t =
    constant t 2 ∷ request t t ∷ store d t 0 ∷ store (d + 1) t 4 ∷ constant (t + 1) cons_tag ∷ compute d which.Add t (t + 1) ∷ []

-- An element of a vector: it is a vector, and the index an integer below the number of elements, which also says that it is not negative.
-- t is 1 as long as the element was not taken.
abbrev pub element_where : (asked : List ℕ) → (d t : ℕ) → (slow : Steps) → Steps
element_where asked d t slow =
    constant t 1
    ∷ (where_tag d (t + 1) object_tag
    (load_header (t + 1) d ∷ constant (t + 2) vector_header
    ∷ if_equal (t + 1) (t + 2)
    (where_integers asked (t + 1)
    (load (t + 1) d 2
    ∷ where_so LessUnsigned (d + 1) (t + 1) (compute (t + 1) which.Add d (d + 1) ∷ load d (t + 1) 6 ∷ constant t 0 ∷ []) [] ∷ [])
    [])
    [] ∷ [])
    []
    ++ (constant (t + 1) 0 ∷ if_different t (t + 1) slow [] ∷ []))

abbrev pub behind_first : FlatForms → FlatForms
behind_first no_form = no_form
behind_first (form_and f fs) = fs

module _ (at : Placement) (literals : List LiteralRow) where
  -- A primitive is applied to the arguments of these forms, whose words are in registers from d on.
  abbrev pub apply_primitive : Primitive → FlatForms → (count d : ℕ) → SitePlace → Steps
  apply_primitive p fs count d site = by p (d + count) (by_procedure at p count d site)
    where
      by : Primitive → (t : ℕ) → Steps → Steps
      by primitive.Add t slow = where_integers (asked_integers at literals d fs) t (sum_where (second_known at literals fs) d t slow) slow
      by primitive.Subtract t slow = where_integers (asked_integers at literals d fs) t (difference_where (second_known at literals fs) d t slow) slow
      by primitive.NumberEqual t slow = where_integers (asked_integers at literals d fs) t (truth_where Equal d d (d + 1)) slow
      by primitive.NumberNotEqual t slow = where_integers (asked_integers at literals d fs) t (truth_where Different d d (d + 1)) slow
      by primitive.NumberLess t slow = where_integers (asked_integers at literals d fs) t (truth_where Less d d (d + 1)) slow
      by primitive.NumberAtMost t slow = where_integers (asked_integers at literals d fs) t (truth_where AtLeast d (d + 1) d) slow
      by primitive.NumberGreater t slow = where_integers (asked_integers at literals d fs) t (truth_where Less d (d + 1) d) slow
      by primitive.NumberAtLeast t slow = where_integers (asked_integers at literals d fs) t (truth_where AtLeast d d (d + 1)) slow
      by primitive.Same t slow = truth_where Equal d d (d + 1)
      by primitive.IsNull t slow = constant t nil_word ∷ truth_where Equal d d t
      by primitive.IsCons t slow = where_tag d t cons_tag (load_from d d true_address) (constant d nil_word ∷ [])
      by primitive.IsInteger t slow = where_tag d t 0 (load_from d d true_address) (constant d nil_word ∷ [])
      by primitive.Cons t slow = cons_made d t
      by primitive.Car t slow = where_likely_tag d t cons_tag (car_into d d) slow
      by primitive.Cdr t slow = where_likely_tag d t cons_tag (cdr_into d d) slow
      by primitive.VectorRef t slow = element_where (asked_integers at literals (d + 1) (behind_first fs)) d t slow
      by other t slow = slow

-- what is judged where a form branches: steps that make it ready, and the test
pub record Judged : Type 0 where
  pub ready : Steps
  pub test : Test

-- the value in d is true
abbrev pub value_judged : (d : ℕ) → Judged
value_judged d = record { ready = constant (d + 1) nil_word ∷ []; test = test_of Different d (d + 1) }

-- Two integers compare in registers d and the next one. Where they are no integers, the slow way says t or nil, and the registers get
-- two words that compare so.
abbrev pub comparison_judged : Test → (so other : ℕ × ℕ) → (asked : List ℕ) → (d t : ℕ) → (slow : Steps) → Judged
comparison_judged test so other asked d t slow = record {
  ready =
      where_integers asked t []
      (slow ++ if_true d t (constant d so.0 ∷ constant (d + 1) so.1 ∷ []) (constant d other.0 ∷ constant (d + 1) other.1 ∷ []));
  test = test;
}

module _ (at : Placement) (literals : List LiteralRow) where
  abbrev pub judge_primitive : Primitive → FlatForms → (count d : ℕ) → SitePlace → Judged
  judge_primitive p fs count d site = by p (d + count) (asked_integers at literals d fs) (by_procedure at p count d site)
    where
      by : Primitive → (t : ℕ) → List ℕ → Steps → Judged
      by primitive.NumberEqual t asked slow = comparison_judged (test_of Equal d (d + 1)) (0, 0) (0, 1) asked d t slow
      by primitive.NumberNotEqual t asked slow = comparison_judged (test_of Different d (d + 1)) (0, 1) (0, 0) asked d t slow
      by primitive.NumberLess t asked slow = comparison_judged (test_of Less d (d + 1)) (0, 1) (1, 0) asked d t slow
      by primitive.NumberGreater t asked slow = comparison_judged (test_of Less (d + 1) d) (1, 0) (0, 1) asked d t slow
      by primitive.NumberAtMost t asked slow = comparison_judged (test_of AtLeast (d + 1) d) (0, 1) (1, 0) asked d t slow
      by primitive.NumberAtLeast t asked slow = comparison_judged (test_of AtLeast d (d + 1)) (1, 0) (0, 1) asked d t slow
      by primitive.Same t asked slow = record { ready = []; test = test_of Equal d (d + 1) }
      by primitive.IsNull t asked slow = record { ready = constant t nil_word ∷ []; test = test_of Equal d t }
      by primitive.IsCons t asked slow =
          record { ready = constant t 3 ∷ compute t which.And d t ∷ constant (t + 1) cons_tag ∷ []; test = test_of Equal t (t + 1) }
      by primitive.IsInteger t asked slow =
          record { ready = constant t 3 ∷ compute t which.And d t ∷ constant (t + 1) 0 ∷ []; test = test_of Equal t (t + 1) }
      by other t asked slow =
          record { ready = apply_primitive at literals p fs count d site ++ (value_judged d).ready; test = (value_judged d).test }
