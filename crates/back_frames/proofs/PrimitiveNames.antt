-- The registers that the code of primitives names, where they are called and where they are judged.
use Rattle.std.proofs.Common.{◌≡◌, ℕ, ◌+◌, Bool, true, false, List, [], ◌∷◌, ◌++◌, Option, Some, None, refl, arith}
use Rattle.std.specs.Prelude.{nat_lt, if◌then◌else◌}
use Rattle.base.specs.AllOf.{AllOf}
use Rattle.lang_meaning.specs.declared.primitive.Primitive.{Primitive}
use Rattle.lang_meaning.specs.declared.primitive.Primitive.TheVariants as primitive
use Rattle.lang_meaning.specs.declared.program.LiteralRow.{LiteralRow}
use Rattle.flat_language.specs.FlatForm.{FlatForms, no_form, form_and}
use Rattle.flat_language.specs.FlatNodes.{count_forms}
use Rattle.mid_code.specs.declared.operation.Comparison.{Comparison}
use Rattle.mid_code.specs.declared.operation.Comparison.TheVariants.{Less}
use Rattle.mid_code.specs.declared.operation.Test.{Test}
use Rattle.mid_code.specs.MidCode.{MidStep}
use Rattle.mid_arena.specs.FixedWords.{true_address}
use Rattle.back_lowering.specs.declared.scope.SitePlace.{SitePlace}
use Rattle.back_lowering.specs.declared.placement.Placement.{Placement}
use Rattle.back_lowering.specs.Steps.{Steps, move, where_so}
use Rattle.back_lowering.specs.Primitives.{Judged, value_judged, truth_where, where_tag, where_likely_tag, where_integers, known_integer, asked_integers, second_known, behind_first, by_procedure, sum_where, difference_where, car_into, cdr_into, cons_made, element_where, apply_primitive, comparison_judged, judge_primitive}
use Rattle.back_frames.proofs.Naming.{StepNames, Names, Range, narrowed, those, none, ◌▸◌, ◌⊹◌, moves, constants, computes, loads, stores, headers, requests, calls, chooses}
use Rattle.back_frames.proofs.Surroundings.{SiteAllowed}
use Rattle.back_frames.proofs.LeafNames.{load_from_names, site_names}

-- what is judged, with its test
pub record JudgedNames (P : ℕ → Type 0) (j : Judged) : Type 0 where
  pub ready : Names P j.ready
  pub first : P j.test.first
  pub second : P j.test.second

pub value_judged_names : {P : ℕ → Type 0} (d : ℕ) → P d → P (d + 1) → JudgedNames P (value_judged d)
value_judged_names d a b = record { ready = constants b ▸ none; first = a; second = b }

truth_names : {P : ℕ → Type 0} (how : Comparison) (d a b : ℕ) → P d → P a → P b → Names P (truth_where how d a b)
truth_names how d a b x y z = chooses y z (load_from_names d d true_address x x) (constants x ▸ none) ▸ none

tag_names : {P : ℕ → Type 0} (of t tag : ℕ) (first second : Steps) → P of → P t → P (t + 1) → Names P first → Names P second
    → Names P (where_tag of t tag first second)
tag_names of t tag first second a b c one other = constants b ▸ computes b a b ▸ constants c ▸ chooses b c one other ▸ none

likely_tag_names : {P : ℕ → Type 0} (of t tag : ℕ) (likely other : Steps) → P of → P t → P (t + 1) → Names P likely → Names P other
    → Names P (where_likely_tag of t tag likely other)
likely_tag_names of t tag likely other a b c one more = constants b ▸ computes b a b ▸ constants c ▸ chooses b c more one ▸ none

integers_names : {P : ℕ → Type 0} (asked : List ℕ) (t : ℕ) (first second : Steps) → AllOf P asked → P t → P (t + 1) → Names P first → Names P second
    → Names P (where_integers asked t first second)
integers_names [] t first second all b c one other = one
integers_names (r ∷ []) t first second all b c one other = likely_tag_names r t 0 first second all.0 b c one other
integers_names (r ∷ q ∷ more) t first second all b c one other =
    computes b all.0 all.1.0 ▸ constants c ▸ computes b b c ▸ constants c ▸ chooses b c other one ▸ none

either_step : {P : ℕ → Type 0} (b : Bool) (s s' : MidStep) → StepNames P s → StepNames P s' → StepNames P (if b then s else s')
either_step true s s' x y = x
either_step false s s' x y = y

sum_names : {P : ℕ → Type 0} (second : Option ℕ) (d t : ℕ) (slow : Steps) → P d → P (d + 1) → P t → P (t + 1) → P (t + 2) → Names P slow
    → Names P (sum_where second d t slow)
sum_names (Some word) d t slow d0 d1 t0 t1 t2 other =
    computes t0 d0 d1
    ▸ either_step (nat_lt word 2147483648) (where_so Less t d slow (move d t ∷ [])) (where_so Less d t slow (move d t ∷ []))
    (chooses t0 d0 other (moves d0 t0 ▸ none)) (chooses d0 t0 other (moves d0 t0 ▸ none))
    ▸ none
sum_names None d t slow d0 d1 t0 t1 t2 other =
    computes t0 d0 d1 ▸ constants t1 ▸ computes t1 d1 t1 ▸ computes t2 t0 d0 ▸ chooses t1 t2 other (moves d0 t0 ▸ none) ▸ none

difference_names : {P : ℕ → Type 0} (second : Option ℕ) (d t : ℕ) (slow : Steps) → P d → P (d + 1) → P t → P (t + 1) → P (t + 2) → Names P slow
    → Names P (difference_where second d t slow)
difference_names (Some word) d t slow d0 d1 t0 t1 t2 other =
    computes t0 d0 d1
    ▸ either_step (nat_lt word 2147483648) (where_so Less d t slow (move d t ∷ [])) (where_so Less t d slow (move d t ∷ []))
    (chooses d0 t0 other (moves d0 t0 ▸ none)) (chooses t0 d0 other (moves d0 t0 ▸ none))
    ▸ none
difference_names None d t slow d0 d1 t0 t1 t2 other =
    computes t0 d0 d1 ▸ constants t1 ▸ computes t1 t1 d1 ▸ computes t2 t0 d0 ▸ chooses t1 t2 other (moves d0 t0 ▸ none) ▸ none

cons_names : {P : ℕ → Type 0} (d t : ℕ) → P d → P (d + 1) → P t → P (t + 1) → Names P (cons_made d t)
cons_names d t d0 d1 t0 t1 = constants t0 ▸ requests t0 t0 ▸ stores d0 t0 ▸ stores d1 t0 ▸ constants t1 ▸ computes d0 t0 t1 ▸ none

element_names : {P : ℕ → Type 0} (asked : List ℕ) (d t : ℕ) (slow : Steps) → AllOf P asked → P d → P (d + 1) → P t → P (t + 1) → P (t + 2) → P (t + 1 + 1)
    → Names P slow → Names P (element_where asked d t slow)
element_names asked d t slow all d0 d1 t0 t1 t2 t1' other =
    constants t0
    ▸ tag_names d (t + 1) _ _ [] d0 t1 t1'
    (headers t1 d0 ▸ constants t2
    ▸ chooses t1 t2
    (integers_names asked (t + 1) _ [] all t1 t1'
    (loads t1 d0 ▸ chooses d1 t1 (computes t1 d0 d1 ▸ loads d0 t1 ▸ constants t0 ▸ none) none ▸ none)
    none)
    none
    ▸ none)
    none
    ⊹ constants t1 ▸ chooses t0 t1 other none ▸ none

car_names : {P : ℕ → Type 0} (to pointer : ℕ) → P to → P pointer → Names P (car_into to pointer)
car_names to pointer a b = record { all = (a, (b, tt)) }

cdr_names : {P : ℕ → Type 0} (to pointer : ℕ) → P to → P pointer → Names P (cdr_into to pointer)
cdr_names to pointer a b = record { all = (a, (b, tt)) }

comparison_names : {P : ℕ → Type 0} (test : Test) (so other : ℕ × ℕ) (asked : List ℕ) (d t : ℕ) (slow : Steps) → P test.first → P test.second → AllOf P asked
    → P d → P (d + 1) → P t → P (t + 1) → Names P slow → JudgedNames P (comparison_judged test so other asked d t slow)
comparison_names test so other asked d t slow x y all d0 d1 t0 t1 slowly = record {
  ready =
      integers_names asked t [] _ all t0 t1 none
      (slowly ⊹ constants t0 ▸ chooses d0 t0 (constants d0 ▸ constants d1 ▸ none) (constants d0 ▸ constants d1 ▸ none) ▸ none);
  first = x;
  second = y;
}

module _ (at : Placement) (literals : List LiteralRow) where
  pub asked_allowed : (P : ℕ → Type 0) (d : ℕ) (fs : FlatForms) → Range P d (count_forms fs) → AllOf P (asked_integers at literals d fs)
  asked_allowed P d no_form all = tt
  asked_allowed P d (form_and f fs) all = by (known_integer at literals f) refl (asked_allowed P (d + 1) fs (narrowed d (count_forms fs + 1) (d + 1) (count_forms fs) all (omega arith) (omega arith)))
    where
      by : (o : Option ℕ) → known_integer at literals f ≡ o → AllOf P (asked_integers at literals (d + 1) fs) → AllOf P (asked_integers at literals d (form_and f fs))
      by (Some w) e h = rw e h
      by None e h = let d0 : P d = all d (omega arith) (omega arith) in rw e (d0, h)

  behind_allowed : (P : ℕ → Type 0) (d : ℕ) (fs : FlatForms) → Range P d (count_forms fs) → AllOf P (asked_integers at literals (d + 1) (behind_first fs))
  behind_allowed P d no_form all = tt
  behind_allowed P d (form_and f fs) all = asked_allowed P (d + 1) fs (narrowed d (count_forms fs + 1) (d + 1) (count_forms fs) all (omega arith) (omega arith))

  module _ (P : ℕ → Type 0) (fs : FlatForms) (d : ℕ) (site : SitePlace) (s : SiteAllowed P site) (all : Range P d (count_forms fs + 3)) where
    d0 : P d
    d0 = all d (omega arith) (omega arith)

    d1 : P (d + 1)
    d1 = all (d + 1) (omega arith) (omega arith)

    t0 : P (d + count_forms fs)
    t0 = all (d + count_forms fs) (omega arith) (omega arith)

    t1 : P (d + count_forms fs + 1)
    t1 = all (d + count_forms fs + 1) (omega arith) (omega arith)

    t2 : P (d + count_forms fs + 2)
    t2 = all (d + count_forms fs + 2) (omega arith) (omega arith)

    arguments : Range P d (count_forms fs)
    arguments = narrowed d (count_forms fs + 3) d (count_forms fs) all (omega arith) (omega arith)

    asked : AllOf P (asked_integers at literals d fs)
    asked = asked_allowed P d fs arguments

    slowly : (p : Primitive) → Names P (by_procedure at p (count_forms fs) d site)
    slowly p =
        calls d0 (those d (count_forms fs) arguments) ▸ constants d1 ▸ chooses d0 d1 (site_names site d (d + 1) s d0 d1 ⊹ calls d0 tt ▸ none) none ▸ none

    -- **a primitive that is applied**
    pub applied_names : (p : Primitive) → Names P (apply_primitive at literals p fs (count_forms fs) d site)
    applied_names primitive.Add = integers_names _ _ _ _ asked t0 t1 (sum_names (second_known at literals fs) d _ _ d0 d1 t0 t1 t2 (slowly primitive.Add)) (slowly primitive.Add)
    applied_names primitive.Subtract =
        integers_names _ _ _ _ asked t0 t1 (difference_names (second_known at literals fs) d _ _ d0 d1 t0 t1 t2 (slowly primitive.Subtract)) (slowly primitive.Subtract)
    applied_names primitive.NumberEqual = integers_names _ _ _ _ asked t0 t1 (truth_names _ d _ _ d0 d0 d1) (slowly primitive.NumberEqual)
    applied_names primitive.NumberNotEqual = integers_names _ _ _ _ asked t0 t1 (truth_names _ d _ _ d0 d0 d1) (slowly primitive.NumberNotEqual)
    applied_names primitive.NumberLess = integers_names _ _ _ _ asked t0 t1 (truth_names _ d _ _ d0 d0 d1) (slowly primitive.NumberLess)
    applied_names primitive.NumberAtMost = integers_names _ _ _ _ asked t0 t1 (truth_names _ d _ _ d0 d1 d0) (slowly primitive.NumberAtMost)
    applied_names primitive.NumberGreater = integers_names _ _ _ _ asked t0 t1 (truth_names _ d _ _ d0 d1 d0) (slowly primitive.NumberGreater)
    applied_names primitive.NumberAtLeast = integers_names _ _ _ _ asked t0 t1 (truth_names _ d _ _ d0 d0 d1) (slowly primitive.NumberAtLeast)
    applied_names primitive.Same = truth_names _ d _ _ d0 d0 d1
    applied_names primitive.IsNull = constants t0 ▸ truth_names _ d _ _ d0 d0 t0
    applied_names primitive.IsCons = tag_names d _ _ _ _ d0 t0 t1 (load_from_names d d true_address d0 d0) (constants d0 ▸ none)
    applied_names primitive.IsInteger = tag_names d _ _ _ _ d0 t0 t1 (load_from_names d d true_address d0 d0) (constants d0 ▸ none)
    applied_names primitive.Cons = cons_names d _ d0 d1 t0 t1
    applied_names primitive.Car = likely_tag_names d _ _ _ _ d0 t0 t1 (car_names d d d0 d0) (slowly primitive.Car)
    applied_names primitive.Cdr = likely_tag_names d _ _ _ _ d0 t0 t1 (cdr_names d d d0 d0) (slowly primitive.Cdr)
    applied_names primitive.VectorRef =
        element_names _ d _ _ (behind_allowed P d fs arguments) d0 d1 t0 t1 t2 (all (d + count_forms fs + 1 + 1) (omega arith) (omega arith)) (slowly primitive.VectorRef)
    applied_names p = slowly p

    other_judged : (p : Primitive) → JudgedNames P (record { ready = apply_primitive at literals p fs (count_forms fs) d site ++ (value_judged d).ready; test = (value_judged d).test })
    other_judged p = record { ready = applied_names p ⊹ constants d1 ▸ none; first = d0; second = d1 }

    -- **and one that is judged**
    pub judged_names : (p : Primitive) → JudgedNames P (judge_primitive at literals p fs (count_forms fs) d site)
    judged_names primitive.NumberEqual = comparison_names _ _ _ _ d _ _ d0 d1 asked d0 d1 t0 t1 (slowly primitive.NumberEqual)
    judged_names primitive.NumberNotEqual = comparison_names _ _ _ _ d _ _ d0 d1 asked d0 d1 t0 t1 (slowly primitive.NumberNotEqual)
    judged_names primitive.NumberLess = comparison_names _ _ _ _ d _ _ d0 d1 asked d0 d1 t0 t1 (slowly primitive.NumberLess)
    judged_names primitive.NumberGreater = comparison_names _ _ _ _ d _ _ d1 d0 asked d0 d1 t0 t1 (slowly primitive.NumberGreater)
    judged_names primitive.NumberAtMost = comparison_names _ _ _ _ d _ _ d1 d0 asked d0 d1 t0 t1 (slowly primitive.NumberAtMost)
    judged_names primitive.NumberAtLeast = comparison_names _ _ _ _ d _ _ d0 d1 asked d0 d1 t0 t1 (slowly primitive.NumberAtLeast)
    judged_names primitive.Same = record { ready = none; first = d0; second = d1 }
    judged_names primitive.IsNull = record { ready = constants t0 ▸ none; first = d0; second = t0 }
    judged_names primitive.IsCons = record { ready = constants t0 ▸ computes t0 d0 t0 ▸ constants t1 ▸ none; first = t0; second = t1 }
    judged_names primitive.IsInteger = record { ready = constants t0 ▸ computes t0 d0 t0 ▸ constants t1 ▸ none; first = t0; second = t1 }
    judged_names p = other_judged p
