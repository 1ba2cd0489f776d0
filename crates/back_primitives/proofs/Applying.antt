-- **A primitive is applied**, in line where that is quick: one case a primitive.
use Rattle.std.proofs.Common.{◌≡◌, true, ℕ, ◌+◌, List, [], ◌∷◌, length, refl, sym, ◌∙◌, subst, arith}
use Rattle.std.specs.Prelude.{not, int_lt, int_le}
use Rattle.lang_meaning.specs.Arity.{arity}
use Rattle.lang_meaning.specs.declared.primitive.Primitive.{Primitive}
use Rattle.lang_meaning.specs.declared.primitive.Primitive.TheVariants.{Add, Subtract, NumberEqual, NumberNotEqual, NumberLess, NumberAtMost, NumberGreater, NumberAtLeast, Same, IsNull, IsCons, IsInteger, Cons, Car, Cdr, VectorRef}
use Rattle.lang_meaning.specs.Values.{Value, int_equal}
use Rattle.flat_language.specs.FlatForm.{FlatForm, FlatForms, no_form, form_and}
use Rattle.flat_language.specs.FlatNodes.{count_forms}
use Rattle.mid_code.specs.declared.operation.Comparison.TheVariants.{Equal, Different, Less, AtLeast}
use Rattle.mid_code.specs.MidCode.{code_of}
use Rattle.mid_arena.proofs.Keeping.{as_many_words}
use Rattle.mid_arena.proofs.WordFacts.{integers_compare_equal, integers_compare_different, integers_compare_less, integers_compare_at_least, integers_compare_at_most, not_below}
use Rattle.back_lowering.specs.Primitives.{by_procedure, apply_primitive}
use Rattle.back_lowering.specs.Registers.{of_code}
use Rattle.back_relation.specs.Setting.{Setting}
use Rattle.back_relation.specs.Starts.{Start}
use Rattle.back_primitives.specs.Applying.{Applies, StepsAnswer, NamesThere, LawOfProcedures, LawOfApplying, primitive_credit}
use Rattle.back_primitives.specs.Calling.{KnownWords}
use Rattle.back_primitives.proofs.Answered.{SignalPaid, by_procedure_ends}
use Rattle.back_primitives.proofs.EachCost.{is_quick, each_paid, quick_paid}
use Rattle.back_primitives.proofs.Quick.{named, slow_names}
use Rattle.back_primitives.proofs.QuickConses.{cons_ends}
use Rattle.back_primitives.proofs.QuickElements.{element_ends}
use Rattle.back_primitives.proofs.QuickKinds.{same_ends, null_ends, is_cons_ends, is_integer_ends, car_ends, cdr_ends}
use Rattle.back_primitives.proofs.QuickNumbers.{integers_end, compared_quick}
use Rattle.back_primitives.proofs.QuickSums.{sums_do, differences_do}

-- ---- by the procedure

-- the units of the form pay for a condition
signal_paid : (which : Primitive) → SignalPaid which (primitive_credit which)
signal_paid which = let paid = each_paid which in (omega arith, omega (arith, paid))

pub procedures_law : LawOfProcedures
procedures_law setting k a which vs ws g enough =
    by_procedure_ends setting g.placed k (primitive_credit which) a which vs ws g.there g.pending (slow_names setting.at which (length ws) a.d (length a.regs) a.s.code.site enough) g.room
    g.of_values g.in_registers g.many (omega arith) (λ signals. signal_paid which)

-- ---- lists of one and of two

data OneItem {X : Type 0} : List X → Type 0 where
  one_item : (x : X) → OneItem (x ∷ [])

data TwoItems {X : Type 0} : List X → Type 0 where
  two_items : (x y : X) → TwoItems (x ∷ y ∷ [])

data OneForm : FlatForms → Type 0 where
  one_form : (f : FlatForm) → OneForm (form_and f no_form)

data TwoForms : FlatForms → Type 0 where
  two_forms : (f g : FlatForm) → TwoForms (form_and f (form_and g no_form))

as_one : {X : Type 0} (xs : List X) → length xs ≡ 1 → OneItem xs
as_one [] e = absurd (omega (arith, e))
as_one (x ∷ []) e = one_item x
as_one (x ∷ y ∷ xs) e = absurd (omega (arith, e))

as_two : {X : Type 0} (xs : List X) → length xs ≡ 2 → TwoItems xs
as_two [] e = absurd (omega (arith, e))
as_two (x ∷ []) e = absurd (omega (arith, e))
as_two (x ∷ y ∷ []) e = two_items x y
as_two (x ∷ y ∷ z ∷ xs) e = absurd (omega (arith, e))

as_one_form : (fs : FlatForms) → count_forms fs ≡ 1 → OneForm fs
as_one_form no_form e = absurd (omega (arith, e))
as_one_form (form_and f no_form) e = one_form f
as_one_form (form_and f (form_and g fs)) e = absurd (omega (arith, e))

as_two_forms : (fs : FlatForms) → count_forms fs ≡ 2 → TwoForms fs
as_two_forms no_form e = absurd (omega (arith, e))
as_two_forms (form_and f no_form) e = absurd (omega (arith, e))
as_two_forms (form_and f (form_and g no_form)) e = two_forms f g
as_two_forms (form_and f (form_and g (form_and h fs))) e = absurd (omega (arith, e))

-- ---- in line

module _ (setting : Setting) (k : ℕ) (a : Start setting) where
  abbrev Code : Primitive → FlatForms → List Value → Type 0
  Code which fs vs =
      NamesThere a (apply_primitive setting.at setting.program.literals which fs (count_forms fs) a.d a.s.code.site)
      → StepsAnswer setting k a which vs (apply_primitive setting.at setting.program.literals which fs (count_forms fs) a.d a.s.code.site)

  -- what is done of two arguments, and of one
  pub with_two :
      (Code : FlatForms → List Value → Type 0) (which : Primitive) → arity which ≡ 2
      → ((v1 v2 : Value) (w1 w2 : ℕ) (f1 f2 : FlatForm) → Applies setting k a which (v1 ∷ v2 ∷ []) (w1 ∷ w2 ∷ [])
      → KnownWords setting.at setting.program.literals (form_and f1 (form_and f2 no_form)) (w1 ∷ w2 ∷ []) → Code (form_and f1 (form_and f2 no_form)) (v1 ∷ v2 ∷ []))
      → (fs : FlatForms) (vs : List Value) (ws : List ℕ) → Applies setting k a which vs ws → KnownWords setting.at setting.program.literals fs ws → count_forms fs ≡ arity which
      → Code fs vs
  with_two Code which two does fs vs ws g known count =
      by vs ws fs (as_two vs (g.many ∙ two)) (as_two ws (as_many_words a.w.places vs ws g.of_values ∙ g.many ∙ two)) (as_two_forms fs (count ∙ two)) g known
    where
      by : (vs : List Value) (ws : List ℕ) (fs : FlatForms) → TwoItems vs → TwoItems ws → TwoForms fs → Applies setting k a which vs ws
          → KnownWords setting.at setting.program.literals fs ws → Code fs vs
      by vs ws fs (two_items v1 v2) (two_items w1 w2) (two_forms f1 f2) g known = does v1 v2 w1 w2 f1 f2 g known

  pub with_one :
      (Code : FlatForms → List Value → Type 0) (which : Primitive) → arity which ≡ 1
      → ((v : Value) (w : ℕ) (f : FlatForm) → Applies setting k a which (v ∷ []) (w ∷ []) → Code (form_and f no_form) (v ∷ []))
      → (fs : FlatForms) (vs : List Value) (ws : List ℕ) → Applies setting k a which vs ws → count_forms fs ≡ arity which → Code fs vs
  with_one Code which one does fs vs ws g count =
      by vs ws fs (as_one vs (g.many ∙ one)) (as_one ws (as_many_words a.w.places vs ws g.of_values ∙ g.many ∙ one)) (as_one_form fs (count ∙ one)) g
    where
      by : (vs : List Value) (ws : List ℕ) (fs : FlatForms) → OneItem vs → OneItem ws → OneForm fs → Applies setting k a which vs ws → Code fs vs
      by vs ws fs (one_item v) (one_item w) (one_form f) g = does v w f g

  -- the slow way is paid behind the question whether both are integers
  paid_behind : (which : Primitive) → is_quick which ≡ true → arity which ≡ 2 → SignalPaid which 854
  paid_behind which quick two = let paid = quick_paid which quick in (omega arith, omega (arith, paid, two))

  by_slow : (which : Primitive) (fs : FlatForms) (vs : List Value) (ws : List ℕ) → Applies setting k a which vs ws → count_forms fs ≡ arity which
      → NamesThere a (by_procedure setting.at which (count_forms fs) a.d a.s.code.site) → StepsAnswer setting k a which vs (by_procedure setting.at which (count_forms fs) a.d a.s.code.site)
  by_slow which fs vs ws g count =
      subst (λ n. NamesThere a (by_procedure setting.at which n a.d a.s.code.site) → StepsAnswer setting k a which vs (by_procedure setting.at which n a.d a.s.code.site))
      (as_many_words a.w.places vs ws g.of_values ∙ g.many ∙ sym count) (procedures_law setting k a which vs ws g)

  pub applied :
      (which : Primitive) (fs : FlatForms) (vs : List Value) (ws : List ℕ) → Applies setting k a which vs ws → KnownWords setting.at setting.program.literals fs ws
      → count_forms fs ≡ arity which → Code which fs vs
  applied Add fs vs ws g known count =
      with_two (Code Add) Add refl (λ v1 v2 w1 w2 f1 f2 g known enough.
      integers_end setting k a Add v1 v2 w1 w2 f1 f2 g known {c1 = 854} _ (sums_do setting k a v1 v2 w1 w2 f1 f2 known g) (omega arith) (omega arith) (paid_behind Add refl refl) enough)
      fs vs ws g known count
  applied Subtract fs vs ws g known count =
      with_two (Code Subtract) Subtract refl (λ v1 v2 w1 w2 f1 f2 g known enough.
      integers_end setting k a Subtract v1 v2 w1 w2 f1 f2 g known {c1 = 854} _ (differences_do setting k a v1 v2 w1 w2 f1 f2 known g) (omega arith) (omega arith)
      (paid_behind Subtract refl refl) enough)
      fs vs ws g known count
  applied NumberEqual fs vs ws g known count =
      with_two (Code NumberEqual) NumberEqual refl (λ v1 v2 w1 w2 f1 f2 g known enough.
      integers_end setting k a NumberEqual v1 v2 w1 w2 f1 f2 g known {c1 = 854} _
      (compared_quick setting k a NumberEqual v1 v2 w1 w2 f1 f2 g known Equal a.d (a.d + 1) (λ x y. x) (λ x y. y) int_equal (λ regs e f. (e, f)) integers_compare_equal (λ i j. refl) (omega arith))
      (omega arith) (omega arith) (paid_behind NumberEqual refl refl) enough)
      fs vs ws g known count
  applied NumberNotEqual fs vs ws g known count =
      with_two (Code NumberNotEqual) NumberNotEqual refl (λ v1 v2 w1 w2 f1 f2 g known enough.
      integers_end setting k a NumberNotEqual v1 v2 w1 w2 f1 f2 g known {c1 = 854} _
      (compared_quick setting k a NumberNotEqual v1 v2 w1 w2 f1 f2 g known Different a.d (a.d + 1) (λ x y. x) (λ x y. y) (λ i j. not (int_equal i j)) (λ regs e f. (e, f))
      integers_compare_different (λ i j. refl) (omega arith))
      (omega arith) (omega arith) (paid_behind NumberNotEqual refl refl) enough)
      fs vs ws g known count
  applied NumberLess fs vs ws g known count =
      with_two (Code NumberLess) NumberLess refl (λ v1 v2 w1 w2 f1 f2 g known enough.
      integers_end setting k a NumberLess v1 v2 w1 w2 f1 f2 g known {c1 = 854} _
      (compared_quick setting k a NumberLess v1 v2 w1 w2 f1 f2 g known Less a.d (a.d + 1) (λ x y. x) (λ x y. y) int_lt (λ regs e f. (e, f)) integers_compare_less (λ i j. refl) (omega arith))
      (omega arith) (omega arith) (paid_behind NumberLess refl refl) enough)
      fs vs ws g known count
  applied NumberAtMost fs vs ws g known count =
      with_two (Code NumberAtMost) NumberAtMost refl (λ v1 v2 w1 w2 f1 f2 g known enough.
      integers_end setting k a NumberAtMost v1 v2 w1 w2 f1 f2 g known {c1 = 854} _
      (compared_quick setting k a NumberAtMost v1 v2 w1 w2 f1 f2 g known AtLeast (a.d + 1) a.d (λ x y. y) (λ x y. x) int_le (λ regs e f. (f, e)) integers_compare_at_most (λ i j. refl) (omega arith))
      (omega arith) (omega arith) (paid_behind NumberAtMost refl refl) enough)
      fs vs ws g known count
  applied NumberGreater fs vs ws g known count =
      with_two (Code NumberGreater) NumberGreater refl (λ v1 v2 w1 w2 f1 f2 g known enough.
      integers_end setting k a NumberGreater v1 v2 w1 w2 f1 f2 g known {c1 = 854} _
      (compared_quick setting k a NumberGreater v1 v2 w1 w2 f1 f2 g known Less (a.d + 1) a.d (λ x y. y) (λ x y. x) (λ i j. int_lt j i) (λ regs e f. (f, e))
      (λ i j r s. integers_compare_less j i s r) (λ i j. refl) (omega arith))
      (omega arith) (omega arith) (paid_behind NumberGreater refl refl) enough)
      fs vs ws g known count
  applied NumberAtLeast fs vs ws g known count =
      with_two (Code NumberAtLeast) NumberAtLeast refl (λ v1 v2 w1 w2 f1 f2 g known enough.
      integers_end setting k a NumberAtLeast v1 v2 w1 w2 f1 f2 g known {c1 = 854} _
      (compared_quick setting k a NumberAtLeast v1 v2 w1 w2 f1 f2 g known AtLeast a.d (a.d + 1) (λ x y. x) (λ x y. y) (λ i j. int_le j i) (λ regs e f. (e, f))
      (λ i j r s. integers_compare_at_least i j r s ∙ not_below i j) (λ i j. refl) (omega arith))
      (omega arith) (omega arith) (paid_behind NumberAtLeast refl refl) enough)
      fs vs ws g known count
  applied Same fs vs ws g known count =
      with_two (Code Same) Same refl (λ v1 v2 w1 w2 f1 f2 g known enough. same_ends setting k a v1 v2 w1 w2 g (omega arith)) fs vs ws g known count
  applied IsNull fs vs ws g known count =
      with_one (Code IsNull) IsNull refl (λ v w f g enough. null_ends setting k a v w g (named (of_code (code_of (apply_primitive setting.at setting.program.literals IsNull (form_and f no_form) 1 a.d a.s.code.site))) 0 (a.d + 1) (length a.regs) refl enough) (omega arith)) fs vs ws g count
  applied IsCons fs vs ws g known count =
      with_one (Code IsCons) IsCons refl (λ v w f g enough. is_cons_ends setting k a v w g (named (of_code (code_of (apply_primitive setting.at setting.program.literals IsCons (form_and f no_form) 1 a.d a.s.code.site))) 4 (a.d + 1 + 1) (length a.regs) refl enough) (omega arith)) fs vs ws g count
  applied IsInteger fs vs ws g known count =
      with_one (Code IsInteger) IsInteger refl (λ v w f g enough. is_integer_ends setting k a v w g (named (of_code (code_of (apply_primitive setting.at setting.program.literals IsInteger (form_and f no_form) 1 a.d a.s.code.site))) 4 (a.d + 1 + 1) (length a.regs) refl enough) (omega arith)) fs vs ws g count
  applied Cons fs vs ws g known count =
      with_two (Code Cons) Cons refl (λ v1 v2 w1 w2 f1 f2 g known enough. cons_ends setting k a v1 v2 w1 w2 g (named (of_code (code_of (apply_primitive setting.at setting.program.literals Cons (form_and f1 (form_and f2 no_form)) 2 a.d a.s.code.site))) 7 (a.d + 2 + 1) (length a.regs) refl enough)) fs vs ws g known count
  applied Car fs vs ws g known count = with_one (Code Car) Car refl (λ v w f g enough. car_ends setting k a v w g enough) fs vs ws g count
  applied Cdr fs vs ws g known count = with_one (Code Cdr) Cdr refl (λ v w f g enough. cdr_ends setting k a v w g enough) fs vs ws g count
  applied VectorRef fs vs ws g known count =
      with_two (Code VectorRef) VectorRef refl (λ v1 v2 w1 w2 f1 f2 g known enough. element_ends setting k a v1 v2 w1 w2 f1 f2 g known enough) fs vs ws g known count
  applied which fs vs ws g known count = by_slow which fs vs ws g count

pub applying_law : LawOfApplying
applying_law setting k a which fs vs ws g known count enough = applied setting k a which fs vs ws g known count enough
