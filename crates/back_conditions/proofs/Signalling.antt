-- The routine that signals what may be no condition.
use Rattle.std.proofs.Common.{◌≡◌, ℕ, suc, ◌+◌, ◌*◌, ◌<◌, ◌≤◌, Bool, true, false, List, [], ◌∷◌, length, Option, Some, None, refl, sym, ap, ◌∙◌, subst, arith}
use Rattle.std.specs.Prelude.{slice_get, ◌==◌, ◌^◌, ◌%◌, ◌/◌, ◌-◌, not, bit_and, if◌then◌else◌}
use Rattle.std.proofs.lemmas.Nat.{and_mask}
use Rattle.std.proofs.lemmas.Bool.Decides.{nat_tests}
use Rattle.lang_meaning.specs.Classes.{is_condition, fetch, is_below, class_of_object}
use Rattle.lang_meaning.specs.InitialHeap.{class_value}
use Rattle.lang_meaning.specs.Objects.{class_object, serious_condition_class, domain_error_class}
use Rattle.lang_meaning.specs.State.{DynamicContext}
use Rattle.lang_meaning.specs.Values.{Value}
use Rattle.lang_meaning.specs.Primitives.{as_instance}
use Rattle.flat_language.specs.FlatMeaning.{mean_signal}
use Rattle.flat_language.specs.FlatNodes.{tables}
use Rattle.flat_language.specs.FlatSignals.{signal, signal_under, signal_domain_error}
use Rattle.flat_language.specs.FlatState.{FlatState, FlatEvaluated}
use Rattle.flat_laws.specs.FlatLater.{FlatLater}
use Rattle.flat_laws.proofs.Applied.{signals_under}
use Rattle.flat_laws.proofs.Later.{later_kept}
use Rattle.mid_code.specs.declared.operation.Comparison.TheVariants.{Equal, Different}
use Rattle.mid_code.specs.declared.operation.Counted.TheVariants.{Turn}
use Rattle.mid_code.specs.declared.operation.Test.{Test}
use Rattle.std.proofs.lemmas.Bool.{eq-eqb}
use Rattle.std.proofs.lemmas.Option.{slice_get_within}
use Rattle.mid_code.specs.Arena.{Arena, left, is_lent, word_in, word_at}
use Rattle.mid_code.specs.Meaning.{Context, exec, leaves}
use Rattle.mid_code.specs.MidCode.{MidCode, choose, step_and, code_of}
use Rattle.mid_code.specs.State.{Registers, register, falls, ends, charged, go_on, MidState, MidOutcome}
use Rattle.mid_code.specs.Words.{compares}
use Rattle.mid_arena.specs.Tags.{nil_word, object_tag, instance_header}
use Rattle.mid_arena.proofs.Arguments.{ObjectFound, object_found}
use Rattle.mid_arena.proofs.HeaderKinds.{instance_of}
use Rattle.mid_arena.proofs.Memory.{spot_low}
use Rattle.mid_code.specs.declared.operation.Arithmetic.TheVariants as which
use Rattle.base.specs.Arithmetic.{shift_left}
use Rattle.mid_arena.proofs.Running.{RunsTo, none_left, and_then, constant_falls, compute_known, load_falls, address_below, address_up, choose_first, choose_first_falls, choose_second_falls}
use Rattle.mid_arena.proofs.Slots.{instance_low}
use Rattle.mid_arena.proofs.Telling.{FoundByHeader, found_kind, found_other_kind, found_other_tag, instance_told, truth_told}
use Rattle.mid_arena.proofs.WordFacts.{low_four_bits_tested}
use Rattle.back_lowering.specs.RoutineCodes.{signal_code, domain_code, returning, signals_domain}
use Rattle.back_lowering.specs.Program.{procedure_with, framed, passing_frame}
use Rattle.back_lowering.specs.Routines.{raise_routine, signal_routine, domain_routine}
use Rattle.back_lowering.specs.Steps.{Steps, constant, load, compute, load_header, test_of, if_equal, if_different}
use Rattle.back_relation.specs.Setting.{Setting}
use Rattle.back_relation.specs.Placed.{IsPlaced}
use Rattle.back_relation.specs.Room.{failing_words, raise_words}
use Rattle.back_relation.specs.Worlds.{World, Standing}
use Rattle.back_relation.specs.Around.{CallBegins, SiteStored}
use Rattle.back_relation.specs.Ends.{CallEnds}
use Rattle.back_relation.specs.Forms.{context_at, code_at}
use Rattle.back_relation.specs.RoutineClaims.{WordIs}
use Rattle.back_relation.proofs.Growth.{grown_later}
use Rattle.back_relation.proofs.Parts.{IsLast, go_on_last}
use Rattle.back_relation.proofs.Straight.{world_cost, around_cost}
use Rattle.back_relation.specs.Starts.{FlatGrown}
use Rattle.back_exits.proofs.Frames.{memory_holds}
use Rattle.back_exits.proofs.Entries.{UsedAt, routine_used, routine_registers, laid_frame, routine_enters}
use Rattle.back_exits.proofs.Bodies.{world_of, body_begins, body_leaves, laid_site}
use Rattle.back_exits.proofs.LeavingRoutine.{tasks_below, begins_charged, returning_last, signal_later}
use Rattle.back_exits.proofs.Returning.{call_behind, returning_comes}
use Rattle.back_exits.proofs.Within.{begins_less, call_less}
use Rattle.back_conditions.proofs.Failing.{domain_does}
use Rattle.back_conditions.specs.Within.{RaisesAt, RaisesWithin, making_spare, DomainWithin, SignalWithin}
use Rattle.back_conditions.proofs.Making.{raise_used}
use Rattle.back_conditions.proofs.Marking.{condition_of}

-- a branch that does not fall out is the end, whatever stands behind
first_passes :
    (c : Context) (t : Test) (first second rest : MidCode) {a b : ℕ} (rs : Registers) (z : MidState) {q : MidOutcome} → register t.first rs ≡ Some a → register t.second rs ≡ Some b
    → compares t.comparison a b ≡ true → exec c first rs (charged 12 z) ≡ q → IsLast q.end → exec c (step_and (choose t first second) rest) rs z ≡ q
unfolding exec
first_passes c t first second rest rs z {q = q} e f h same l =
    ap (λ p. go_on p (λ rs y. exec c rest rs y)) ((choose_first {c = c} {t = t} {first = first} {second = second} e f h (record { same = same })).same ∙ go_on_last q.end q _ refl l)
    ∙ go_on_last q.end q _ refl l

domain_used : (setting : Setting) → IsPlaced setting → UsedAt setting.procedures (domain_routine setting.at) (framed passing_frame (procedure_with Turn 2 (domain_code setting.at)))
domain_used setting placed = routine_used setting placed 9 (framed passing_frame (procedure_with Turn 2 (domain_code setting.at))) refl

low_bits : (w : ℕ) → bit_and w 3 ≡ w % 4
low_bits w = and_mask w 2

module _ (setting : Setting) (placed : IsPlaced setting) (k t credit : ℕ) (some : 100 ≤ credit) (rs valid : List Standing) (w : World) (around : DynamicContext) (raises : RaisesAt setting k t around 1 credit) (z : FlatState)
    (domains : (rs valid : List Standing) (w : World) (z : FlatState) (y : MidState) → DomainWithin setting k t rs valid w around z y making_spare)
    (y : MidState) (begins : CallBegins setting rs valid failing_words w around z y) (site : SiteStored setting around y) (c mark : Value) (c_word mark_word : ℕ) (of_condition : WordIs setting w c_word c)
    (of_mark : WordIs setting w mark_word mark) where
  open begins use {things}

  abbrev cx : Context
  cx = code_at setting k t

  abbrev regs_with : (r2 r3 : Option ℕ) → Registers
  regs_with r2 r3 = Some c_word ∷ Some mark_word ∷ r2 ∷ r3 ∷ None ∷ []

  abbrev domain_steps : Steps
  domain_steps = signals_domain setting.at 0 2 serious_condition_class

  abbrev wrong : FlatEvaluated
  wrong = signal_domain_error (context_at setting k) (signal (context_at setting k)) c serious_condition_class around z

  -- what is no condition is a domain error
  no_condition : (r2 r3 : Option ℕ) (cost n : ℕ) → y.cost + n ≡ cost → n ≤ 116
      → CallEnds setting (credit + 176) (suc t + 0) rs valid w around z y wrong (exec cx (code_of domain_steps) (regs_with r2 r3) (record y { cost = cost }))
  no_condition r2 r3 cost n same few =
      subst (λ m. CallEnds setting (credit + 176) (suc t + 0) rs valid w around z y wrong (exec cx (code_of domain_steps) (regs_with r2 r3) (record y { cost = m }))) same
      (subst (λ q. CallEnds setting (credit + 176) (suc t + 0) rs valid w around z y wrong q) (sym steps)
      (call_behind setting {c1 = n} (world_cost setting n things) (around_cost setting z y n (omega arith)) {c2 = 122} (omega (arith, some)) {t = suc t + 0} {t' = suc t + 0} refl (omega arith)
      (call_behind setting {c1 = 6} (world_cost setting 6 (begins_charged setting n begins).things) (around_cost setting z (charged n y) 6 (omega arith)) {c2 = 116} {c = 122} (omega arith) {t = suc t + 0} {t' = t + making_spare} refl (omega arith)
      (returning_comes setting setting.at cx 2 (domain_routine setting.at) (0 ∷ 2 ∷ []) (c_word ∷ serious_condition_class ∷ []) (regs_with (Some serious_condition_class) r3) (charged 6 (charged n y)) (domain_used setting placed).there
      (refl, (refl, tt)) (omega arith) (omega arith) (begins_charged setting 6 (begins_charged setting n begins)).things
      (domains rs valid w z (charged 52 (charged 6 (charged n y))) c serious_condition_class c_word (omega arith) of_condition site
      (begins_charged setting 52 (begins_charged setting 6 (begins_charged setting n begins))))))))
    where
      steps : exec cx (code_of domain_steps) (regs_with r2 r3) (charged n y) ≡ exec cx (code_of (returning setting.at 2 (domain_routine setting.at) (0 ∷ 2 ∷ []))) (regs_with (Some serious_condition_class) r3) (charged 6 (charged n y))
      steps = (and_then constant_falls (record { same = refl })).same

  abbrev raise_steps : Steps
  raise_steps = returning setting.at 4 (raise_routine setting.at) (0 ∷ 1 ∷ [])

  abbrev class_steps : Steps
  class_steps = load 2 0 2 ∷ load 2 2 14 ∷ constant 3 nil_word ∷ if_different 2 3 raise_steps [] ∷ []

  abbrev header_steps : Steps
  header_steps =
      load_header 2 0 ∷ constant 3 28 ∷ compute 2 which.ShiftLeft 2 3 ∷ constant 3 (instance_header 0 * 2 ^ 28) ∷ if_equal 2 3 class_steps [] ∷ []

  abbrev Comes : FlatEvaluated → Type 0
  Comes r = CallEnds setting (credit + 176) (suc t + 0) rs valid w around z y r (exec cx (code_of (signal_code setting.at)) (regs_with None None) y)

  -- the tag is another one
  other_tag : (c_word % 4 == object_tag) ≡ false → Comes wrong
  unfolding signal_code
  other_tag other =
      subst (λ q. CallEnds setting (credit + 176) (suc t + 0) rs valid w around z y wrong q)
      (sym ((and_then constant_falls
      (and_then (compute_known refl refl (low_bits c_word))
      (and_then constant_falls
      (and_then (choose_second_falls refl refl other none_left) (record { same = refl }))))).same))
      (no_condition (Some (c_word % 4)) (Some object_tag) (y.cost + 6 + 10 + 6 + 12 + 2) 36 (omega arith) (omega arith))

  module _ (tag : (c_word % 4 == object_tag) ≡ true) (head : ℕ) (head_there : word_at y.arena (c_word - 2) ≡ Some head) where
    address_of : (n : ℕ) → (n % 4 == object_tag) ≡ true → n ≡ (n - 2) + 2
    address_of n e = grind (arith, nat_tests)

    shifted : (n : ℕ) → (shift_left n 28 == instance_header 0 * 2 ^ 28) ≡ (n % 16 == 3)
    shifted n = low_four_bits_tested n 3

    -- the header is that of another kind
    other_header : c_word < 2 ^ 32 → (head % 16 == 3) ≡ false → Comes wrong
    unfolding signal_code
    other_header small other =
        subst (λ q. CallEnds setting (credit + 176) (suc t + 0) rs valid w around z y wrong q)
        (sym ((and_then constant_falls
        (and_then (compute_known refl refl (low_bits c_word))
        (and_then constant_falls
        (and_then
        (choose_first_falls refl refl tag
        (and_then (load_falls refl (address_below c_word 1 (c_word - 2) (address_of c_word tag) small) head_there)
        (and_then constant_falls
        (and_then (compute_known refl refl refl)
        (and_then constant_falls
        (and_then (choose_second_falls refl refl (shifted head ∙ other) none_left) none_left))))))
        (record { same = refl }))))).same))
        (no_condition (Some (shift_left head 28)) (Some (instance_header 0 * 2 ^ 28)) (y.cost + 6 + 10 + 6 + 12 + 8 + 6 + 10 + 6 + 12 + 2 + 2) 80 (omega arith) (omega arith))

    -- it is an instance, whose class says whether it is a condition
    module _ (class_word flag : ℕ) (kind : (head % 16 == 3) ≡ true) (class_there : word_at y.arena (c_word + 2) ≡ Some class_word) (flag_there : word_at y.arena (class_word + 14) ≡ Some flag)
        (small : c_word + 2 < 2 ^ 32) (class_small : class_word + 14 < 2 ^ 32) where
      below_two : c_word < 2 ^ 32
      below_two = omega (arith, small)

      class_falls : (flag == nil_word) ≡ true → (r2 r3 : Option ℕ) (cost : ℕ)
          → RunsTo cx (code_of class_steps) (regs_with r2 r3) (record y { cost = cost }) (ends falls (regs_with (Some flag) (Some nil_word)) (record y { cost = cost + 8 + 8 + 6 + 12 + 2 }))
      class_falls e r2 r3 cost =
          and_then (load_falls refl (address_up c_word 2 small) class_there)
          (and_then (load_falls refl (address_up class_word 14 class_small) flag_there)
          (and_then constant_falls
          (and_then (choose_second_falls refl refl (ap not e) none_left) none_left)))

      header_falls : (flag == nil_word) ≡ true → (r2 r3 : Option ℕ) (cost : ℕ)
          → RunsTo cx (code_of header_steps) (regs_with r2 r3) (record y { cost = cost })
          (ends falls (regs_with (Some flag) (Some nil_word)) (record y { cost = cost + 8 + 6 + 10 + 6 + 12 + 8 + 8 + 6 + 12 + 2 + 2 }))
      header_falls e r2 r3 cost =
          and_then (load_falls refl (address_below c_word 1 (c_word - 2) (address_of c_word tag) below_two) head_there)
          (and_then constant_falls
          (and_then (compute_known refl refl refl)
          (and_then constant_falls
          (and_then (choose_first_falls refl refl (shifted head ∙ kind) (class_falls e (Some (shift_left head 28)) (Some (instance_header 0 * 2 ^ 28)) (cost + 8 + 6 + 10 + 6 + 12))) none_left))))

      no_class : (flag == nil_word) ≡ true → Comes wrong
      unfolding signal_code
      no_class e =
          subst (λ q. CallEnds setting (credit + 176) (suc t + 0) rs valid w around z y wrong q)
          (sym ((and_then constant_falls
          (and_then (compute_known refl refl (low_bits c_word))
          (and_then constant_falls
          (and_then (choose_first_falls refl refl tag (header_falls e (Some (c_word % 4)) (Some object_tag) (y.cost + 6 + 10 + 6 + 12))) (record { same = refl }))))).same))
          (no_condition (Some flag) (Some nil_word) (y.cost + 6 + 10 + 6 + 12 + 8 + 6 + 10 + 6 + 12 + 8 + 8 + 6 + 12 + 2 + 2 + 2) 116 (omega arith) (omega arith))

      raise_cost : y.cost + 110 ≡ y.cost + 6 + 10 + 6 + 12 + 8 + 6 + 10 + 6 + 12 + 8 + 8 + 6 + 12
      raise_cost = omega arith

      raise_ends : is_condition (tables setting.program) z.state c ≡ true
          → CallEnds setting (credit + 176) (suc t + 0) rs valid w around z y (signal_under (context_at setting k) around.handlers c mark around z) (exec cx (code_of raise_steps) (regs_with (Some flag) (Some nil_word)) (charged 110 y))
      raise_ends condition =
          call_behind setting {c1 = 110} (world_cost setting 110 things) (around_cost setting z y 110 (omega arith)) {c2 = 66 + credit} (omega arith) {t = suc t + 0} {t' = t + 1} refl (omega arith)
          (returning_comes setting setting.at cx 4 (raise_routine setting.at) (0 ∷ 1 ∷ []) (c_word ∷ mark_word ∷ []) (regs_with (Some flag) (Some nil_word)) (charged 110 y) (raise_used setting placed).there (refl, (refl, tt)) (omega arith)
          (omega arith) (begins_charged setting 110 begins).things
          (raises rs valid w z (charged 52 (charged 110 y)) c mark c_word mark_word condition of_condition of_mark site
          (begins_less setting raise_words (omega arith) (begins_charged setting 52 (begins_charged setting 110 begins)))))

      raise_last : IsLast (exec cx (code_of raise_steps) (regs_with (Some flag) (Some nil_word)) (charged 110 y)).end
      raise_last =
          returning_last setting k t 4 (raise_routine setting.at) (0 ∷ 1 ∷ []) (c_word ∷ mark_word ∷ []) (regs_with (Some flag) (Some nil_word)) (charged 110 y) (raise_used setting placed).there (refl, (refl, tt)) (omega arith)

      a_class : (flag == nil_word) ≡ false → is_condition (tables setting.program) z.state c ≡ true → Comes (signal_under (context_at setting k) around.handlers c mark around z)
      unfolding signal_code
      a_class e condition =
          subst (λ q. CallEnds setting (credit + 176) (suc t + 0) rs valid w around z y (signal_under (context_at setting k) around.handlers c mark around z) q)
          (sym ((and_then constant_falls
          (and_then (compute_known refl refl (low_bits c_word))
          (and_then constant_falls
          (record {
            same =
                first_passes cx (test_of Equal 2 3) (code_of header_steps) (code_of []) (code_of domain_steps) (regs_with (Some (c_word % 4)) (Some object_tag)) (record y { cost = y.cost + 6 + 10 + 6 }) refl refl tag
                ((and_then (load_falls refl (address_below c_word 1 (c_word - 2) (address_of c_word tag) below_two) head_there)
                (and_then constant_falls
                (and_then (compute_known refl refl refl)
                (and_then constant_falls
                (record {
                  same =
                      first_passes cx (test_of Equal 2 3) (code_of class_steps) (code_of []) (code_of []) (regs_with (Some (shift_left head 28)) (Some (instance_header 0 * 2 ^ 28)))
                      (record y { cost = y.cost + 6 + 10 + 6 + 12 + 8 + 6 + 10 + 6 }) refl refl (shifted head ∙ kind)
                      ((and_then (load_falls refl (address_up c_word 2 small) class_there)
                      (and_then (load_falls refl (address_up class_word 14 class_small) flag_there)
                      (and_then constant_falls
                      (record {
                        same =
                            first_passes cx (test_of Different 2 3) (code_of raise_steps) (code_of []) (code_of []) (regs_with (Some flag) (Some nil_word))
                            (record y { cost = y.cost + 6 + 10 + 6 + 12 + 8 + 6 + 10 + 6 + 12 + 8 + 8 + 6 }) refl refl (ap not e)
                            (ap (λ n. exec cx (code_of raise_steps) (regs_with (Some flag) (Some nil_word)) (record y { cost = n })) (sym raise_cost)) raise_last;
                      })))).same) raise_last;
                }))))).same) raise_last;
          })))).same))
          (raise_ends condition)

-- a word that is there stands in the memory
pub word_within : (a : Arena) (x n : ℕ) → word_at a x ≡ Some n → x / 4 < length a.memory
word_within a x n h = by (is_lent a x) (slice_get a.memory (x / 4)) refl h
  where
    by : (l : Bool) (o : Option (Option ℕ)) → slice_get a.memory (x / 4) ≡ o → (if l then word_in o else None) ≡ Some n → x / 4 < length a.memory
    by false o e h = absurd (cc h)
    by true None e h = absurd (cc h)
    by true (Some o) e h = slice_get_within a.memory (x / 4) o e

module _ (setting : Setting) (placed : IsPlaced setting) (k t credit : ℕ) (some : 100 ≤ credit) (rs valid : List Standing) (w : World) (around : DynamicContext) (raises : RaisesAt setting k t around 1 credit) (z : FlatState)
    (domains : (rs valid : List Standing) (w : World) (z : FlatState) (y : MidState) → DomainWithin setting k t rs valid w around z y making_spare)
    (y : MidState) (begins : CallBegins setting rs valid failing_words w around z y) (site : SiteStored setting around y) (c mark : Value) (c_word mark_word : ℕ) (of_condition : WordIs setting w c_word c)
    (of_mark : WordIs setting w mark_word mark) where
  open begins use {things}

  abbrev Ends : FlatEvaluated → Type 0
  Ends r = Comes setting placed k t credit some rs valid w around raises z domains y begins site c mark c_word mark_word of_condition of_mark r

  -- where the value is an instance: what its class says
  module _ (i : ℕ × List (Option Value) × Value) (stored : fetch z.state c ≡ Some (instance_of i)) where
    it : ObjectFound setting.names (tables setting.program) w.places z.state y things.represents c c_word (instance_of i)
    it = object_found setting.names (tables setting.program) w.places z.state y things.represents c c_word (instance_of i) of_condition stored

    known : i.0 < length (tables setting.program).classes
    known = things.represents.classes.instances it.number i.0 i.1 i.2 it.stored

    the_class : ObjectFound setting.names (tables setting.program) w.places z.state y things.represents (class_value setting.names (tables setting.program) i.0) it.stands.class.word (class_object i.0)
    the_class =
        object_found setting.names (tables setting.program) w.places z.state y things.represents (class_value setting.names (tables setting.program) i.0) it.stands.class.word (class_object i.0) it.stands.class.of_value
        (things.represents.classes.objects i.0 known)

    tag_is : (c_word % 4 == object_tag) ≡ true
    tag_is = let word = it.word in let aligned = it.spot_stands.aligned in eq-eqb (c_word % 4) object_tag (omega (arith, word, aligned))

    head_is : word_at y.arena (c_word - 2) ≡ Some (instance_header (length i.1))
    head_is = let word = it.word in let same : c_word - 2 ≡ it.spot.address = omega (arith, word) in ap (word_at y.arena) same ∙ it.stands.header

    kind_is : (instance_header (length i.1) % 16 == 3) ≡ true
    kind_is = eq-eqb (instance_header (length i.1) % 16) 3 (omega arith)

    class_is : word_at y.arena (c_word + 2) ≡ Some it.stands.class.word
    class_is = let word = it.word in let same : c_word + 2 ≡ it.spot.address + 4 = omega (arith, word) in ap (word_at y.arena) same ∙ it.stands.class.stands

    flag_is : word_at y.arena (it.stands.class.word + 14) ≡ Some the_class.stands.condition.word
    flag_is =
        let word = the_class.word in
        let same : it.stands.class.word + 14 ≡ the_class.spot.address + 16 = omega (arith, word) in
        ap (word_at y.arena) same ∙ the_class.stands.condition.stands

    tells : not (the_class.stands.condition.word == nil_word) ≡ is_below (tables setting.program) i.0 serious_condition_class
    tells =
        truth_told setting.names (tables setting.program) w.places z.state y things.represents (is_below (tables setting.program) i.0 serious_condition_class) the_class.stands.condition.word
        the_class.stands.condition.of_value

    small : c_word + 2 < 2 ^ 32
    small = let low = instance_low setting.names (tables setting.program) w.places z.state y things.represents c c_word i.0 i.1 i.2 it in omega (arith, low)

    class_small : it.stands.class.word + 14 < 2 ^ 32
    class_small = let word = the_class.word in let high = spot_low things.represents.arena the_class.spot_stands in omega (arith, word, high)

    -- the class of the value
    class_told : is_condition (tables setting.program) z.state c ≡ is_below (tables setting.program) i.0 serious_condition_class
    class_told =
        ap (λ v. is_condition (tables setting.program) z.state v) it.value
        ∙ ap (λ o. is_below (tables setting.program) (class_of_object o) serious_condition_class) it.stored

    signals_it : is_condition (tables setting.program) z.state c ≡ true → Ends (signal_under (context_at setting k) around.handlers c mark around z)
    signals_it condition =
        a_class setting placed k t credit some rs valid w around raises z domains y begins site c mark c_word mark_word of_condition of_mark tag_is (instance_header (length i.1)) head_is it.stands.class.word
        the_class.stands.condition.word kind_is class_is flag_is small class_small (turn_not (tells ∙ sym class_told ∙ condition)) condition
      where
        turn_not : {b : Bool} → not b ≡ true → b ≡ false
        turn_not {b} = by b
          where
            by : (b : Bool) → not b ≡ true → b ≡ false
            by true e = absurd (cc e)
            by false e = refl

    is_wrong : is_condition (tables setting.program) z.state c ≡ false
        → Ends (signal_domain_error (context_at setting k) (signal (context_at setting k)) c serious_condition_class around z)
    is_wrong none =
        no_class setting placed k t credit some rs valid w around raises z domains y begins site c mark c_word mark_word of_condition of_mark tag_is (instance_header (length i.1)) head_is it.stands.class.word
        the_class.stands.condition.word kind_is class_is flag_is small class_small (turn_not (tells ∙ sym class_told ∙ none))
      where
        turn_not : {b : Bool} → not b ≡ false → b ≡ true
        turn_not {b} = by b
          where
            by : (b : Bool) → not b ≡ false → b ≡ true
            by true e = refl
            by false e = absurd (cc e)

  body_comes : Ends (mean_signal (context_at setting k) c mark around z)
  body_comes = by (is_condition (tables setting.program) z.state c) refl
    where
      wrong_so : is_condition (tables setting.program) z.state c ≡ false → FoundByHeader as_instance instance_of (λ h. h % 16 == 3) y.arena (fetch z.state c) c_word
          → Ends (signal_domain_error (context_at setting k) (signal (context_at setting k)) c serious_condition_class around z)
      wrong_so none (found_kind i stored part tag head kind) = is_wrong i stored none
      wrong_so none (found_other_kind h part tag head kind) =
          let there = word_within y.arena (c_word - 2) h head in
          let size = things.represents.arena.size in
          other_header setting placed k t credit some rs valid w around raises z domains y begins site c mark c_word mark_word of_condition of_mark tag h head (omega (arith, there, size)) kind
      wrong_so none (found_other_tag part tag) =
          other_tag setting placed k t credit some rs valid w around raises z domains y begins site c mark c_word mark_word of_condition of_mark tag

      by : (b : Bool) → is_condition (tables setting.program) z.state c ≡ b → Ends (mean_signal (context_at setting k) c mark around z)
      by true e =
          let cond = condition_of (tables setting.program) z.state things.represents.built_in c e in
          subst (λ r. Ends r) (sym (ap (λ b. if b then signal_under (context_at setting k) around.handlers c mark around z else signal_domain_error (context_at setting k) (signal (context_at setting k)) c serious_condition_class around z) e))
          (signals_it (cond.class, cond.slots, cond.mark) cond.stored e)
      by false e =
          subst (λ r. Ends r) (sym (ap (λ b. if b then signal_under (context_at setting k) around.handlers c mark around z else signal_domain_error (context_at setting k) (signal (context_at setting k)) c serious_condition_class around z) e))
          (wrong_so e (instance_told setting.names (tables setting.program) w.places z.state y things.represents c c_word of_condition))

-- what is meant only grows
meant_grows : (setting : Setting) (k : ℕ) (c mark : Value) (around : DynamicContext) (z : FlatState) → FlatGrown z (mean_signal (context_at setting k) c mark around z).state
meant_grows setting k c mark around z = by (is_condition (tables setting.program) z.state c)
  where
    by : (b : Bool)
        → FlatGrown z (if b then signal_under (context_at setting k) around.handlers c mark around z else signal_domain_error (context_at setting k) (signal (context_at setting k)) c serious_condition_class around z).state
    by true = grown_later (signals_under {R = FlatLater} {k = later_kept} (context_at setting k) (tasks_below setting k) around.handlers c mark around z).grows
    by false = grown_later (signal_later setting k domain_error_class (c ∷ class_value setting.names (tables setting.program) serious_condition_class ∷ []) around z)

-- **a value is signalled if it is a condition**
pub signal_does :
    (setting : Setting) → IsPlaced setting → (k credit : ℕ) → 100 ≤ credit → credit ≤ 1000 → (around : DynamicContext) (turns : ℕ) → RaisesWithin setting k turns around 1 credit → (rs valid : List Standing) (w : World)
    (z : FlatState) (y : MidState) → SignalWithin setting k turns rs valid w around z y (credit + 208)
unfolding signal_code
signal_does setting placed k credit some low around turns raises rs valid w z y c mark c_word mark_word of_condition of_mark site begins =
    routine_enters setting k (signal_routine setting.at) passing_frame 2 (signal_code setting.at) used (c_word ∷ mark_word ∷ []) refl y turns begins.things.represents.printed (meant_grows setting k c mark around z)
    (let all = memory_holds setting begins.things in omega (arith, all)) begins.room begins.things.within_limit (omega arith) (omega arith) by
  where
    used : UsedAt setting.procedures (signal_routine setting.at) (framed passing_frame (procedure_with Turn 2 (signal_code setting.at)))
    used = routine_used setting placed 5 (framed passing_frame (procedure_with Turn 2 (signal_code setting.at))) refl

    domains : (t : ℕ) → t ≤ turns → (rs valid : List Standing) (w : World) (z : FlatState) (y : MidState) → DomainWithin setting k t rs valid w around z y making_spare
    domains t few rs valid w z y =
        domain_does setting placed k credit low t rs valid w around
        (λ s fewer rs valid w z y c mark c_word mark_word condition of_condition of_mark site begins.
        call_less setting (omega arith) (omega arith) (raises s (omega (arith, few, fewer)) rs valid w z y c mark c_word mark_word condition of_condition of_mark site begins))
        z y

    by : (t : ℕ) → turns ≡ suc t → used.frame ≤ left y.arena
        → CallEnds setting (credit + 208) (turns + 0) rs valid w around z y (mean_signal (context_at setting k) c mark around z)
        (leaves y.arena.blocks (exec (code_at setting k t) (code_of (signal_code setting.at)) (routine_registers setting 2 (signal_code setting.at) (c_word ∷ mark_word ∷ [])) (laid_frame setting used.frame 2 y)))
    by t same room =
        subst (λ n. CallEnds setting (credit + 208) (n + 0) rs valid w around z y (mean_signal (context_at setting k) c mark around z)
        (leaves y.arena.blocks (exec (code_at setting k t) (code_of (signal_code setting.at)) (routine_registers setting 2 (signal_code setting.at) (c_word ∷ mark_word ∷ [])) (laid_frame setting used.frame 2 y)))) (sym same)
        (body_leaves setting placed begins.things used.frame 2 room (omega arith)
        (body_comes setting placed k t credit some rs valid (world_of setting placed w y) around (raises t (omega (arith, same))) z (domains t (omega (arith, same))) (laid_frame setting used.frame 2 y)
        (body_begins setting placed begins.things used.frame 2 room failing_words (let few = used.fewer in omega (arith, few)) begins)
        (laid_site setting placed begins.things used.frame 2 room around site) c mark c_word mark_word of_condition of_mark))
