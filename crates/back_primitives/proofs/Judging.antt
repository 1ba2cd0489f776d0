-- **A primitive is judged**, where a form branches on what it says: one case a primitive.
use Rattle.std.proofs.Common.{◌≡◌, true, false, ℕ, ◌+◌, ◌<◌, ◌≤◌, ℤ, Bool, List, [], ◌∷◌, ◌++◌, length, Some, refl, sym, ap, ◌∙◌, subst, arith}
use Rattle.std.specs.Prelude.{slice_set, ◌==◌, ◌%◌, not, is_some, int_lt, int_le}
use Rattle.std.proofs.Math.ListN.{length-set}
use Rattle.lang_meaning.specs.Arity.{arity}
use Rattle.lang_meaning.specs.Classes.{fetch}
use Rattle.lang_meaning.specs.declared.primitive.Primitive.{Primitive}
use Rattle.lang_meaning.specs.declared.primitive.Primitive.TheVariants.{NumberEqual, NumberNotEqual, NumberLess, NumberAtMost, NumberGreater, NumberAtLeast, Same, IsNull, IsCons, IsInteger}
use Rattle.lang_meaning.specs.Primitives.{result, as_cons, as_integer, primitive}
use Rattle.lang_meaning.specs.Values.{Value, integer, nil, truth, same, is_true, in_range, int_equal}
use Rattle.flat_language.specs.FlatForm.{FlatForm, FlatForms, no_form, form_and}
use Rattle.flat_language.specs.FlatNodes.{tables, count_forms}
use Rattle.flat_language.specs.FlatState.{FlatEvaluated, gives}
use Rattle.mid_code.specs.declared.operation.Arithmetic.TheVariants as how
use Rattle.mid_code.specs.declared.operation.Comparison.{Comparison}
use Rattle.mid_code.specs.declared.operation.Comparison.TheVariants.{Equal, Different, Less, AtLeast}
use Rattle.mid_code.specs.declared.operation.Test.{Test}
use Rattle.mid_code.specs.Meaning.{Context, exec}
use Rattle.mid_code.specs.MidCode.{code_of}
use Rattle.mid_code.specs.State.{Registers, register, falls, ends, MidState, MidOutcome}
use Rattle.mid_code.specs.State.{charged as mid_charged}
use Rattle.mid_code.specs.Words.{compares}
use Rattle.mid_arena.specs.Represents.{Represents}
use Rattle.mid_arena.specs.Tags.{nil_word, cons_tag, integer_word}
use Rattle.mid_arena.proofs.Registers.{register_here, register_beside}
use Rattle.mid_arena.proofs.Running.{RunsTo, and_then, none_left, costing, constant_falls, compute_known, choose_first_falls, choose_second_falls}
use Rattle.mid_arena.proofs.Sameness.{same_value_same_word}
use Rattle.mid_arena.proofs.Telling.{IntegerTold, integer_found, no_integer, integer_told, ConsTold, cons_found, no_cons, cons_told, nil_told}
use Rattle.mid_arena.proofs.WordFacts.{integers_compare_equal, integers_compare_different, integers_compare_less, integers_compare_at_least, integers_compare_at_most, not_below}
use Rattle.back_lowering.specs.Primitives.{asked_integers, apply_primitive, comparison_judged, judge_primitive}
use Rattle.back_lowering.specs.Registers.{of_code, enough_for}
use Rattle.back_lowering.specs.Steps.{Steps, constant, compute, test_of, if_true}
use Rattle.back_relation.specs.Setting.{Setting}
use Rattle.back_relation.specs.Forms.{TestEnds, judged_credit, code_at}
use Rattle.back_relation.specs.Starts.{Start}
use Rattle.back_relation.proofs.Starts.{reached_same}
use Rattle.back_relation.proofs.Fitting.{registers_front, registers_behind}
use Rattle.back_primitives.specs.Applying.{Applies, primitive_credit, answer_meant, TestAt, NamesThere, JudgesAnswer, LawOfJudgedPrimitives}
use Rattle.back_primitives.specs.Calling.{KnownWords}
use Rattle.back_primitives.proofs.Answered.{SignalPaid}
use Rattle.back_primitives.proofs.Applying.{with_two, with_one, applied}
use Rattle.back_primitives.proofs.Choosing.{Beside, beside_none, beside_set, register_kept, low_bits}
use Rattle.back_primitives.proofs.EachCost.{is_quick, quick_paid}
use Rattle.back_primitives.proofs.Quick.{named, start_with, meant, slow, slow_ends}
use Rattle.back_primitives.proofs.QuickNumbers.{DoesBy, IntegersBy, meant_at, integers_by}
use Rattle.back_primitives.proofs.Tested.{Tells, told_at_once, test_behind, chosen_test, value_told}

pub truth_is : (b : Bool) → is_true (truth b) ≡ b
truth_is true = refl
truth_is false = refl

-- two registers compare so
record ComparesSo (test : Test) (regs : Registers) (b : Bool) : Type 0 where
  first : ℕ
  second : ℕ
  first_word : register test.first regs ≡ Some first
  second_word : register test.second regs ≡ Some second
  judged : compares test.comparison first second ≡ b

-- ---- a word that is there is judged: two registers get words that compare so

module _ (c : Context) (test : Test) (d : ℕ) where
  abbrev two_constants : ℕ × ℕ → Steps
  two_constants p = constant d p.0 ∷ constant (d + 1) p.1 ∷ []

  abbrev set_two : Registers → ℕ × ℕ → Registers
  set_two regs p = slice_set (slice_set regs d (Some p.0)) (d + 1) (Some p.1)

  -- they compare so behind that
  abbrev Compares : ℕ × ℕ → Bool → Type 0
  Compares p b = (regs : Registers) → register d regs ≡ Some p.0 → register (d + 1) regs ≡ Some p.1 → ComparesSo test regs b

  choice_tells :
      (so other : ℕ × ℕ) → Compares so true → Compares other false → (regs : Registers) (y : MidState) (word : ℕ) → d + 2 < length regs → register d regs ≡ Some word
      → Tells c test (if_true d (d + 2) (two_constants so) (two_constants other)) regs y d 32 (not (word == nil_word))
  choice_tells so other if_so if_not regs y word there held = by (not (word == nil_word)) refl
    where
      r1 : Registers
      r1 = slice_set regs (d + 2) (Some nil_word)

      n1 : length r1 ≡ length regs
      n1 = length-set regs (d + 2) (Some nil_word)

      first_there : register d r1 ≡ Some word
      first_there = register_beside regs (d + 2) d (Some nil_word) (λ e. omega (arith, e)) ∙ held

      second_there : register (d + 2) r1 ≡ Some nil_word
      second_there = register_here regs (d + 2) nil_word there

      in_first : (p : ℕ × ℕ) → register d (set_two r1 p) ≡ Some p.0
      in_first p =
          register_beside (slice_set r1 d (Some p.0)) (d + 1) d (Some p.1) (λ e. omega (arith, e)) ∙ register_here r1 d p.0 (omega (arith, there, n1))

      in_second : (p : ℕ × ℕ) → register (d + 1) (set_two r1 p) ≡ Some p.1
      in_second p = let n2 = length-set r1 d (Some p.0) in register_here (slice_set r1 d (Some p.0)) (d + 1) p.1 (omega (arith, there, n1, n2))

      beside : (p : ℕ × ℕ) → Beside d regs (set_two r1 p)
      beside p = beside_set (d + 1) p.1 (omega arith) (beside_set d p.0 (omega arith) (beside_set (d + 2) nil_word (omega arith) (beside_none d regs)))

      told :
          (p : ℕ × ℕ) (b : Bool) → Compares p b → RunsTo c (code_of (if_true d (d + 2) (two_constants so) (two_constants other))) regs y (ends falls (set_two r1 p) (mid_charged 32 y))
          → Tells c test (if_true d (d + 2) (two_constants so) (two_constants other)) regs y d 32 b
      told p b h run =
          let x = h (set_two r1 p) (in_first p) (in_second p) in
          record {
            regs' = set_two r1 p;
            cost = 32;
            run = run;
            beside = beside p;
            first = x.first;
            second = x.second;
            first_word = x.first_word;
            second_word = x.second_word;
            judged = x.judged;
            within = omega arith;
          }

      by : (b : Bool) → not (word == nil_word) ≡ b → Tells c test (if_true d (d + 2) (two_constants so) (two_constants other)) regs y d 32 b
      by true e =
          told so true if_so
          (costing {n = y.cost + 32}
          (and_then constant_falls
          (and_then (choose_first_falls first_there second_there e (and_then constant_falls (and_then constant_falls none_left))) none_left))
          (omega arith))
      by false e =
          told other false if_not
          (costing {n = y.cost + 32}
          (and_then constant_falls
          (and_then (choose_second_falls first_there second_there e (and_then constant_falls (and_then constant_falls none_left))) none_left))
          (omega arith))

module _ (setting : Setting) (k : ℕ) (a : Start setting) where
  abbrev c : Context
  c = code_at setting k a.turns

  represented : Represents setting.names (tables setting.program) a.w.places a.z.state a.y
  represented = a.begins.call.things.represents

  -- ---- comparisons

  module _ (which : Primitive) (v1 v2 : Value) (w1 w2 : ℕ) (f1 f2 : FlatForm) (g : Applies setting k a which (v1 ∷ v2 ∷ []) (w1 ∷ w2 ∷ []))
      (known : KnownWords setting.at setting.program.literals (form_and f1 (form_and f2 no_form)) (w1 ∷ w2 ∷ [])) (quick : is_quick which ≡ true) (two : arity which ≡ 2) where
    abbrev the_meaning : FlatEvaluated
    the_meaning = meant setting k a which (v1 ∷ v2 ∷ []) (w1 ∷ w2 ∷ []) g

    abbrev slowly : Steps
    slowly = slow setting k a which (v1 ∷ v2 ∷ []) (w1 ∷ w2 ∷ []) g

    -- such a test says what is meant
    abbrev Judges : Test → ℕ → Registers → MidState → MidOutcome → Type 0
    Judges test credit regs y q = TestEnds setting credit a.turns a.rs a.valid a.s a.d a.w a.env a.around a.z regs y test the_meaning q

    pub comparison_ends :
        (how : Comparison) (p q : ℕ) (one other : ℕ → ℕ → ℕ) (holds : ℤ → ℤ → Bool) (so or_else : ℕ × ℕ)
        → ((regs : Registers) (u v : ℕ) → register a.d regs ≡ Some u → register (a.d + 1) regs ≡ Some v
        → (register p regs ≡ Some (one u v)) × (register q regs ≡ Some (other u v)))
        → ((i j : ℤ) → in_range i ≡ true → in_range j ≡ true → compares how (one (integer_word i) (integer_word j)) (other (integer_word i) (integer_word j)) ≡ holds i j)
        → compares how (one so.0 so.1) (other so.0 so.1) ≡ true → compares how (one or_else.0 or_else.1) (other or_else.0 or_else.1) ≡ false
        → ((i j : ℤ) → primitive setting.names (tables setting.program) which (integer i ∷ integer j ∷ []) a.z.state ≡ result (truth (holds i j)) a.z.state)
        → enough_for (of_code (code_of (comparison_judged (test_of how p q) so or_else (asked_integers setting.at setting.program.literals a.d (form_and f1 (form_and f2 no_form))) a.d (a.d + 2) slowly).ready)) ≤ length a.regs
        → TestAt setting (primitive_credit which + judged_credit) a (test_of how p q) the_meaning
        (exec c (code_of (comparison_judged (test_of how p q) so or_else (asked_integers setting.at setting.program.literals a.d (form_and f1 (form_and f2 no_form))) a.d (a.d + 2) slowly).ready) a.regs a.y)
    comparison_ends how p q one other holds so or_else reads tells is_so is_else says enough =
        integers_by setting k a which v1 v2 w1 w2 f1 f2 g known (Judges test) {c1 = 754} {credit = primitive_credit which + judged_credit}
        (λ most code first second b h few e. chosen_test setting {c1 = 754} a c h (omega arith) test the_meaning few e)
        (λ o e. less o e) [] rest at_once slower (omega (arith, two)) enough
      where
        test : Test
        test = test_of how p q

        choice : Steps
        choice = if_true a.d (a.d + 2) (two_constants c test a.d so) (two_constants c test a.d or_else)

        rest : Steps
        rest = slowly ++ choice

        says_so : (p' : ℕ × ℕ) (b : Bool) → compares how (one p'.0 p'.1) (other p'.0 p'.1) ≡ b → Compares c test a.d p' b
        says_so p' b h regs e f = let words = reads regs p'.0 p'.1 e f in record {
          first = one p'.0 p'.1;
          second = other p'.0 p'.1;
          first_word = words.0;
          second_word = words.1;
          judged = h;
        }

        less : (o : MidOutcome) → Judges test 754 a.regs a.y o → Judges test (primitive_credit which + judged_credit) a.regs a.y o
        less o e = test_behind setting {c1 = 0} {c2 = 754} a test (reached_same setting {credit = 0} a a.d) (omega (arith, two)) (omega arith) e

        at_once : IntegersBy setting k a which v1 v2 w1 w2 f1 f2 g known (Judges test) 754 []
        at_once i j e f r s x x' regs y begins beside names =
            let b : Start setting = start_with setting a regs y begins in
            let words = reads regs w1 w2 (register_kept a.d (omega arith) beside ∙ g.in_registers.0) (register_kept (a.d + 1) (omega arith) beside ∙ g.in_registers.1.0) in
            subst (λ o. TestAt setting 754 b test o (exec c (code_of []) regs y)) (meant_at setting k a which v1 v2 w1 w2 f1 f2 g known i j (result (truth (holds i j)) a.z.state) e f (says i j))
            (told_at_once setting {credit = 754} b c test [] (truth (holds i j)) (record {
              regs' = regs;
              cost = 0;
              run = costing {n = y.cost + 0} none_left (omega arith);
              beside = beside_none a.d regs;
              first = one w1 w2;
              second = other w1 w2;
              first_word = words.0;
              second_word = words.1;
              judged =
                  ap (λ w. compares how (one w w2) (other w w2)) x ∙ ap (λ w. compares how (one (integer_word i) w) (other (integer_word i) w)) x' ∙ tells i j r s
                  ∙ sym (truth_is (holds i j));
              within = omega arith;
            }))

        slower : DoesBy setting k a which v1 v2 w1 w2 f1 f2 g known (Judges test) 754 rest
        slower regs y begins beside names =
            let b : Start setting = start_with setting a regs y begins in
            let there : a.d + 2 < length a.regs =
            named (of_code (code_of choice)) 0 (a.d + 2) (length a.regs) refl (registers_behind slowly choice (length a.regs) names) in
            let paid : SignalPaid which 722 = let cost = quick_paid which quick in (omega arith, omega (arith, cost, two)) in
            value_told setting {c1 = 722} {c2 = 32} {credit = 754} k b test slowly choice the_meaning
            (slow_ends setting k a which (v1 ∷ v2 ∷ []) (w1 ∷ w2 ∷ []) g regs y begins beside (registers_front slowly choice (length a.regs) names) (omega (arith, two)) paid) (omega arith)
            (λ regs' y' word count held.
            choice_tells c test a.d so or_else (says_so so true is_so) (says_so or_else false is_else) regs' y' word (let n = beside.count in omega (arith, there, count, n)) held)

  -- ---- kinds

  pub same_judged :
      {credit : ℕ} (v1 v2 : Value) (w1 w2 : ℕ) (g : Applies setting k a Same (v1 ∷ v2 ∷ []) (w1 ∷ w2 ∷ []))
      → TestAt setting credit a (test_of Equal a.d (a.d + 1)) (meant setting k a Same (v1 ∷ v2 ∷ []) (w1 ∷ w2 ∷ []) g) (exec c (code_of []) a.regs a.y)
  same_judged {credit} v1 v2 w1 w2 g =
      told_at_once setting {credit = credit} a c (test_of Equal a.d (a.d + 1)) [] (truth (same v1 v2)) (record {
        regs' = a.regs;
        cost = 0;
        run = costing {n = a.y.cost + 0} none_left (omega arith);
        beside = beside_none a.d a.regs;
        first = w1;
        second = w2;
        first_word = g.in_registers.0;
        second_word = g.in_registers.1.0;
        judged =
            same_value_same_word setting.names (tables setting.program) a.w.places a.z.state a.y represented v1 v2 w1 w2 g.of_values.0 g.of_values.1.0
            ∙ sym (truth_is (same v1 v2));
        within = omega arith;
      })

  pub null_judged :
      {credit : ℕ} (v : Value) (w : ℕ) (g : Applies setting k a IsNull (v ∷ []) (w ∷ [])) → a.d + 1 < length a.regs → 6 ≤ credit
      → TestAt setting credit a (test_of Equal a.d (a.d + 1)) (meant setting k a IsNull (v ∷ []) (w ∷ []) g) (exec c (code_of (constant (a.d + 1) nil_word ∷ [])) a.regs a.y)
  null_judged {credit} v w g there enough =
      told_at_once setting {credit = credit} a c (test_of Equal a.d (a.d + 1)) (constant (a.d + 1) nil_word ∷ []) (truth (same v nil)) (record {
        regs' = slice_set a.regs (a.d + 1) (Some nil_word);
        cost = 6;
        run = costing {n = a.y.cost + 6} (and_then constant_falls none_left) (omega arith);
        beside = beside_set (a.d + 1) nil_word (omega arith) (beside_none a.d a.regs);
        first = w;
        second = nil_word;
        first_word = register_beside a.regs (a.d + 1) a.d (Some nil_word) (λ e. omega (arith, e)) ∙ g.in_registers.0;
        second_word = register_here a.regs (a.d + 1) nil_word there;
        judged = nil_told setting.names (tables setting.program) a.w.places a.z.state a.y represented v w g.of_values.0 ∙ sym (truth_is (same v nil));
        within = enough;
      })

  abbrev tag_steps : ℕ → Steps
  tag_steps tag = constant (a.d + 1) 3 ∷ compute (a.d + 1) how.And a.d (a.d + 1) ∷ constant (a.d + 1 + 1) tag ∷ []

  tag_judged :
      {credit : ℕ} (w tag : ℕ) (b : Bool) → register a.d a.regs ≡ Some w → (w % 4 == tag) ≡ b → a.d + 1 + 1 < length a.regs → 22 ≤ credit
      → TestAt setting credit a (test_of Equal (a.d + 1) (a.d + 1 + 1)) (gives (truth b) a.z) (exec c (code_of (tag_steps tag)) a.regs a.y)
  tag_judged {credit} w tag b held so there enough =
      let t : ℕ = a.d + 1 in
      let r1 : Registers = slice_set a.regs t (Some 3) in
      let r2 : Registers = slice_set r1 t (Some (w % 4)) in
      let r3 : Registers = slice_set r2 (t + 1) (Some tag) in
      let n1 : length r1 ≡ length a.regs = length-set a.regs t (Some 3) in
      let n2 : length r2 ≡ length r1 = length-set r1 t (Some (w % 4)) in
      let of_there : register a.d r1 ≡ Some w = register_beside a.regs t a.d (Some 3) (λ e. omega (arith, e)) ∙ held in
      let mask : register t r1 ≡ Some 3 = register_here a.regs t 3 (omega (arith, there)) in
      told_at_once setting {credit = credit} a c (test_of Equal (a.d + 1) (a.d + 1 + 1)) (tag_steps tag) (truth b) (record {
        regs' = r3;
        cost = 22;
        run =
            costing {n = a.y.cost + 22} (and_then constant_falls (and_then (compute_known of_there mask (low_bits w)) (and_then constant_falls none_left)))
            (omega arith);
        beside = beside_set (t + 1) tag (omega arith) (beside_set t (w % 4) (omega arith) (beside_set t 3 (omega arith) (beside_none a.d a.regs)));
        first = w % 4;
        second = tag;
        first_word = register_beside r2 (t + 1) t (Some tag) (λ e. omega (arith, e)) ∙ register_here r1 t (w % 4) (omega (arith, there, n1));
        second_word = register_here r2 (t + 1) tag (omega (arith, there, n1, n2));
        judged = so ∙ sym (truth_is b);
        within = enough;
      })

  pub cons_judged :
      {credit : ℕ} (v : Value) (w : ℕ) (g : Applies setting k a IsCons (v ∷ []) (w ∷ [])) → a.d + 1 + 1 < length a.regs → 22 ≤ credit
      → TestAt setting credit a (test_of Equal (a.d + 1) (a.d + 1 + 1)) (meant setting k a IsCons (v ∷ []) (w ∷ []) g) (exec c (code_of (tag_steps cons_tag)) a.regs a.y)
  cons_judged v w g there enough =
      tag_judged w cons_tag (is_some (as_cons (fetch a.z.state v))) g.in_registers.0
      (told (cons_told setting.names (tables setting.program) a.w.places a.z.state a.y represented v w g.of_values.0)) there enough
    where
      told : ConsTold (fetch a.z.state v) w → (w % 4 == cons_tag) ≡ is_some (as_cons (fetch a.z.state v))
      told (cons_found car cdr e f so) = so ∙ ap (λ o. is_some o) (sym f)
      told (no_cons f so) = so ∙ ap (λ o. is_some o) (sym f)

  pub integer_judged :
      {credit : ℕ} (v : Value) (w : ℕ) (g : Applies setting k a IsInteger (v ∷ []) (w ∷ [])) → a.d + 1 + 1 < length a.regs → 22 ≤ credit
      → TestAt setting credit a (test_of Equal (a.d + 1) (a.d + 1 + 1)) (meant setting k a IsInteger (v ∷ []) (w ∷ []) g) (exec c (code_of (tag_steps 0)) a.regs a.y)
  integer_judged v w g there enough =
      tag_judged w 0 (is_some (as_integer v)) g.in_registers.0
      (told (integer_told setting.names (tables setting.program) a.w.places a.z.state a.y represented v w g.of_values.0)) there enough
    where
      told : IntegerTold v w → (w % 4 == 0) ≡ is_some (as_integer v)
      told (integer_found n e f r x so) = so ∙ ap (λ o. is_some o) (sym f)
      told (no_integer f so) = so ∙ ap (λ o. is_some o) (sym f)

  -- ---- every other one by its value

  abbrev in_line : Primitive → FlatForms → Steps
  in_line which fs = apply_primitive setting.at setting.program.literals which fs (count_forms fs) a.d a.s.code.site

  by_value :
      (which : Primitive) (fs : FlatForms) (vs : List Value) (ws : List ℕ) → Applies setting k a which vs ws → KnownWords setting.at setting.program.literals fs ws
      → count_forms fs ≡ arity which → NamesThere a (in_line which fs ++ constant (a.d + 1) nil_word ∷ [])
      → TestAt setting (primitive_credit which + judged_credit) a (test_of Different a.d (a.d + 1)) (answer_meant setting k a which vs)
      (exec c (code_of (in_line which fs ++ constant (a.d + 1) nil_word ∷ [])) a.regs a.y)
  by_value which fs vs ws g known count enough =
      let ss : Steps = in_line which fs in
      let rest : Steps = constant (a.d + 1) nil_word ∷ [] in
      let there : a.d + 1 < length a.regs = named (of_code (code_of rest)) 0 (a.d + 1) (length a.regs) refl (registers_behind ss rest (length a.regs) enough) in
      value_told setting {c1 = primitive_credit which} {c2 = 6} {credit = primitive_credit which + judged_credit} k a (test_of Different a.d (a.d + 1)) ss rest
      (answer_meant setting k a which vs)
      (applied setting k a which fs vs ws g known count (registers_front ss rest (length a.regs) enough)) (omega arith)
      (λ regs y word same_count held. record {
        regs' = slice_set regs (a.d + 1) (Some nil_word);
        cost = 6;
        run = costing {n = y.cost + 6} (and_then constant_falls none_left) (omega arith);
        beside = beside_set (a.d + 1) nil_word (omega arith) (beside_none a.d regs);
        first = word;
        second = nil_word;
        first_word = register_beside regs (a.d + 1) a.d (Some nil_word) (λ e. omega (arith, e)) ∙ held;
        second_word = register_here regs (a.d + 1) nil_word (omega (arith, there, same_count));
        judged = refl;
        within = omega arith;
      })

  -- ---- all

  abbrev Code : Primitive → FlatForms → List Value → Type 0
  Code which fs vs =
      NamesThere a (judge_primitive setting.at setting.program.literals which fs (count_forms fs) a.d a.s.code.site).ready
      → JudgesAnswer setting k a which vs (judge_primitive setting.at setting.program.literals which fs (count_forms fs) a.d a.s.code.site)

  judged :
      (which : Primitive) (fs : FlatForms) (vs : List Value) (ws : List ℕ) → Applies setting k a which vs ws → KnownWords setting.at setting.program.literals fs ws
      → count_forms fs ≡ arity which → Code which fs vs
  judged NumberEqual fs vs ws g known count =
      with_two setting k a (Code NumberEqual) NumberEqual refl (λ v1 v2 w1 w2 f1 f2 g known enough.
      comparison_ends NumberEqual v1 v2 w1 w2 f1 f2 g known refl refl Equal a.d (a.d + 1) (λ x y. x) (λ x y. y) int_equal (0, 0) (0, 1) (λ regs u v e f. (e, f))
      integers_compare_equal refl refl (λ i j. refl) enough)
      fs vs ws g known count
  judged NumberNotEqual fs vs ws g known count =
      with_two setting k a (Code NumberNotEqual) NumberNotEqual refl (λ v1 v2 w1 w2 f1 f2 g known enough.
      comparison_ends NumberNotEqual v1 v2 w1 w2 f1 f2 g known refl refl Different a.d (a.d + 1) (λ x y. x) (λ x y. y) (λ i j. not (int_equal i j)) (0, 1) (0, 0)
      (λ regs u v e f. (e, f)) integers_compare_different refl refl (λ i j. refl) enough)
      fs vs ws g known count
  judged NumberLess fs vs ws g known count =
      with_two setting k a (Code NumberLess) NumberLess refl (λ v1 v2 w1 w2 f1 f2 g known enough.
      comparison_ends NumberLess v1 v2 w1 w2 f1 f2 g known refl refl Less a.d (a.d + 1) (λ x y. x) (λ x y. y) int_lt (0, 1) (1, 0) (λ regs u v e f. (e, f))
      integers_compare_less refl refl (λ i j. refl) enough)
      fs vs ws g known count
  judged NumberGreater fs vs ws g known count =
      with_two setting k a (Code NumberGreater) NumberGreater refl (λ v1 v2 w1 w2 f1 f2 g known enough.
      comparison_ends NumberGreater v1 v2 w1 w2 f1 f2 g known refl refl Less (a.d + 1) a.d (λ x y. y) (λ x y. x) (λ i j. int_lt j i) (1, 0) (0, 1)
      (λ regs u v e f. (f, e)) (λ i j r s. integers_compare_less j i s r) refl refl (λ i j. refl) enough)
      fs vs ws g known count
  judged NumberAtMost fs vs ws g known count =
      with_two setting k a (Code NumberAtMost) NumberAtMost refl (λ v1 v2 w1 w2 f1 f2 g known enough.
      comparison_ends NumberAtMost v1 v2 w1 w2 f1 f2 g known refl refl AtLeast (a.d + 1) a.d (λ x y. y) (λ x y. x) int_le (0, 1) (1, 0) (λ regs u v e f. (f, e))
      integers_compare_at_most refl refl (λ i j. refl) enough)
      fs vs ws g known count
  judged NumberAtLeast fs vs ws g known count =
      with_two setting k a (Code NumberAtLeast) NumberAtLeast refl (λ v1 v2 w1 w2 f1 f2 g known enough.
      comparison_ends NumberAtLeast v1 v2 w1 w2 f1 f2 g known refl refl AtLeast a.d (a.d + 1) (λ x y. x) (λ x y. y) (λ i j. int_le j i) (1, 0) (0, 1)
      (λ regs u v e f. (e, f)) (λ i j r s. integers_compare_at_least i j r s ∙ not_below i j) refl refl (λ i j. refl) enough)
      fs vs ws g known count
  judged Same fs vs ws g known count =
      with_two setting k a (Code Same) Same refl (λ v1 v2 w1 w2 f1 f2 g known enough. same_judged v1 v2 w1 w2 g) fs vs ws g known count
  judged IsNull fs vs ws g known count =
      with_one setting k a (Code IsNull) IsNull refl (λ v w f g enough.
      null_judged v w g (named (of_code (code_of (constant (a.d + 1) nil_word ∷ []))) 0 (a.d + 1) (length a.regs) refl enough) (omega arith))
      fs vs ws g count
  judged IsCons fs vs ws g known count =
      with_one setting k a (Code IsCons) IsCons refl (λ v w f g enough.
      cons_judged v w g (named (of_code (code_of (tag_steps cons_tag))) 4 (a.d + 1 + 1) (length a.regs) refl enough) (omega arith))
      fs vs ws g count
  judged IsInteger fs vs ws g known count =
      with_one setting k a (Code IsInteger) IsInteger refl (λ v w f g enough.
      integer_judged v w g (named (of_code (code_of (tag_steps 0))) 4 (a.d + 1 + 1) (length a.regs) refl enough) (omega arith))
      fs vs ws g count
  judged which fs vs ws g known count = by_value which fs vs ws g known count

pub judged_law : LawOfJudgedPrimitives
judged_law setting k a which fs vs ws g known count enough = judged setting k a which fs vs ws g known count enough
