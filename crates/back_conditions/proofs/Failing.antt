-- The routines that make a condition and signal it: of a class without slots, with one slot, and a domain error.
use Rattle.std.proofs.Common.{◌≡◌, ℕ, suc, ◌+◌, ◌*◌, ◌<◌, ◌≤◌, List, [], ◌∷◌, Some, None, refl, sym, ap, ◌∙◌, subst, arith}
use Rattle.std.specs.Prelude.{◌^◌}
use Rattle.lang_meaning.specs.InitialHeap.{class_value}
use Rattle.lang_meaning.specs.Objects.{domain_error_class, built_in_classes}
use Rattle.lang_meaning.specs.State.{DynamicContext}
use Rattle.lang_meaning.specs.Values.{Value}
use Rattle.flat_language.specs.FlatNodes.{tables}
use Rattle.flat_language.specs.FlatSignals.{signal}
use Rattle.flat_language.specs.FlatState.{FlatState, FlatEvaluated, charged}
use Rattle.mid_code.specs.declared.operation.Counted.TheVariants.{Turn}
use Rattle.mid_code.specs.Arena.{left, word_at}
use Rattle.mid_code.specs.Meaning.{Context, exec, leaves}
use Rattle.mid_code.specs.MidCode.{code_of}
use Rattle.mid_code.specs.State.{no_room, ends, MidState, MidOutcome}
use Rattle.mid_arena.specs.Tags.{nil_word, instance_header}
use Rattle.mid_arena.specs.FixedWords.{class_address}
use Rattle.mid_arena.specs.Places.{of_other}
use Rattle.mid_arena.specs.Standing.{ArenaStands, ValueAt}
use Rattle.mid_arena.proofs.Growing.{spot_below}
use Rattle.mid_arena.proofs.Making.{begun, begun_grows}
use Rattle.mid_arena.proofs.Memory.{heap_below}
use Rattle.mid_arena.proofs.Running.{and_then, and_ends, constant_falls, compute_known, request_falls, request_wanting, load_falls, store_in_heap, address_here, address_above}
use Rattle.mid_arena.proofs.WordFacts.{four_times_count, sum_fits}
use Rattle.back_lowering.specs.RoutineCodes.{failing_code, failing_with_code, domain_code, returning}
use Rattle.back_lowering.specs.Program.{procedure_with, framed, passing_frame}
use Rattle.back_lowering.specs.Routines.{raise_routine, failing_routine, failing_with_routine, domain_routine}
use Rattle.back_relation.specs.Setting.{Setting, control_spot}
use Rattle.back_relation.specs.Placed.{IsPlaced}
use Rattle.back_relation.specs.Room.{raise_words}
use Rattle.back_relation.specs.Worlds.{World, Standing}
use Rattle.back_relation.specs.Around.{CallBegins, SiteStored}
use Rattle.back_relation.specs.Ends.{CallEnds}
use Rattle.back_relation.specs.Forms.{context_at, code_at}
use Rattle.back_relation.specs.RoutineClaims.{WordIs, IsBuiltInCondition}
use Rattle.back_relation.proofs.Growth.{grown_later}
use Rattle.back_relation.specs.Things.{Things}
use Rattle.back_relation.proofs.Straight.{world_units, around_units}
use Rattle.back_exits.proofs.Returning.{call_behind}
use Rattle.back_exits.proofs.Frames.{memory_holds}
use Rattle.back_exits.proofs.Entries.{UsedAt, routine_used, routine_registers, laid_frame, routine_enters}
use Rattle.back_exits.proofs.Bodies.{world_of, body_begins, body_leaves, laid_site}
use Rattle.back_exits.proofs.LeavingRoutine.{signal_later}
use Rattle.back_conditions.specs.Within.{RaisesAt, RaisesWithin, making_credit, making_spare, FailingWithin, FailingWithWithin, DomainWithin}
use Rattle.back_conditions.proofs.Storing.{with_runs, domain_runs}
use Rattle.back_conditions.proofs.Making.{class_there, class_word, condition_comes, printed_more}

-- ---- a class without slots

module _ (setting : Setting) (placed : IsPlaced setting) (k t raise_credit : ℕ) (low : raise_credit ≤ 1000) (rs valid : List Standing) (w : World) (around : DynamicContext) (raises : RaisesAt setting k t around 0 raise_credit)
    (z : FlatState) (y : MidState) (begins : CallBegins setting rs valid raise_words w around z y) (site : SiteStored setting around y) where
  open begins use {things}

  abbrev cx : Context
  cx = code_at setting k t

  abbrev arena_there : ArenaStands y.arena
  arena_there = things.represents.arena

  heap_small : y.arena.heap_to ≤ 2 ^ 26
  heap_small = heap_below arena_there

  heap_high : 220 ≤ y.arena.heap_to
  heap_high = let low = spot_below arena_there (things.represents.spots (of_other 1) (control_spot setting) things.control) in omega (arith, low)

  module _ (class : ℕ) (is : IsBuiltInCondition class 0) where
    abbrev word : ℕ
    word = class_word setting placed k t raise_credit 0 rs valid w around raises z y begins site class [] [] is tt

    abbrev q : MidOutcome
    q = exec cx (code_of (failing_code setting.at)) (Some class ∷ None ∷ None ∷ None ∷ None ∷ []) y

    loaded : (room : 3 ≤ left y.arena) → word_at (begun 3 (instance_header 0 ∷ []) y.arena) (4 * class + 0) ≡ Some word
    loaded room =
        let high = is.high in
        let h = heap_high in
        (begun_grows 3 (instance_header 0 ∷ []) arena_there room (omega arith)).heap.words (4 * class + 0) (omega (arith, high, h))
        ∙ ap (word_at y.arena) (omega arith)
        ∙ (class_there setting placed k t raise_credit 0 rs valid w around raises z y begins site class [] [] is tt).stands

    failing_runs : 3 ≤ left y.arena → q ≡ exec cx (code_of (returning setting.at 3 (raise_routine setting.at) (3 ∷ 4 ∷ []))) (Some class ∷ None ∷ Some 2 ∷ Some (y.arena.heap_to + 2) ∷ Some nil_word ∷ [])
        (record y { arena = begun 3 (instance_header 0 ∷ word ∷ nil_word ∷ []) y.arena; cost = y.cost + 6 + 10 + 6 + 20 + 6 + 8 + 8 + 8 + 6 + 8 + 6 + 10 })
    unfolding failing_code
    failing_runs room =
        let small = heap_small in
        let high = is.high in
        let aligned = arena_there.aligned in
        let heap = arena_there.heap in
        (and_then constant_falls
        (and_then (compute_known refl refl (four_times_count class (omega (arith, high))))
        (and_then constant_falls
        (and_then (request_falls refl room)
        (and_then constant_falls
        (and_then (store_in_heap refl refl (address_here y.arena.heap_to (omega arith)) aligned heap (omega arith))
        (and_then (load_falls refl (address_above (4 * class) 0 (4 * class + 0) refl (omega (arith, high))) (loaded room))
        (and_then (store_in_heap refl refl (address_above y.arena.heap_to 4 (y.arena.heap_to + 4) refl (omega arith)) (omega (arith, aligned)) (omega (arith, heap)) (omega arith))
        (and_then constant_falls
        (and_then (store_in_heap refl refl (address_above y.arena.heap_to 8 (y.arena.heap_to + 4 + 4) (omega arith) (omega arith)) (omega (arith, aligned)) (omega (arith, heap)) (omega arith))
        (and_then constant_falls
        (and_then (compute_known refl refl (sum_fits y.arena.heap_to 2 (omega arith)))
        (record { same = refl }))))))))))))).same

    failing_wants : left y.arena < 3 → q ≡ ends (no_room 3 (left y.arena)) (Some class ∷ None ∷ Some (4 * class) ∷ Some 3 ∷ None ∷ []) (record y { cost = y.cost + 6 + 10 + 6 + 20 })
    unfolding failing_code
    failing_wants wants =
        let high = is.high in
        (and_then constant_falls
        (and_then (compute_known refl refl (four_times_count class (omega (arith, high))))
        (and_then constant_falls
        (and_ends tt (request_wanting refl wants))))).same

    pub failing_comes : CallEnds setting 0 (suc t + making_spare) rs valid w around (charged 1 z) y (signal (context_at setting k) class [] around z) q
    failing_comes =
        condition_comes setting placed k t raise_credit 0 rs valid w around raises z y begins site class [] [] is tt q
        (printed_more setting k t (code_of (failing_code setting.at)) (Some class ∷ None ∷ None ∷ None ∷ None ∷ []) y)
        (λ room. (
          (Some class ∷ None ∷ Some 2 ∷ Some (y.arena.heap_to + 2) ∷ Some nil_word ∷ []),
          y.cost + 6 + 10 + 6 + 20 + 6 + 8 + 8 + 8 + 6 + 8 + 6 + 10,
          (refl, (refl, tt)),
          omega arith,
          omega (arith, low),
          failing_runs room,
        ))
        (λ wants. ((Some class ∷ None ∷ Some (4 * class) ∷ Some 3 ∷ None ∷ []), record y { cost = y.cost + 6 + 10 + 6 + 20 }, failing_wants wants, refl, omega arith))

  -- ---- a class with one slot

  module _ (class : ℕ) (v : Value) (v_word : ℕ) (of_value : WordIs setting w v_word v) (is : IsBuiltInCondition class 1) where
    abbrev one_word : ℕ
    one_word = class_word setting placed k t raise_credit 0 rs valid w around raises z y begins site class (v ∷ []) (v_word ∷ []) is (of_value, tt)

    abbrev with_q : MidOutcome
    with_q = exec cx (code_of (failing_with_code setting.at)) (Some class ∷ Some v_word ∷ None ∷ None ∷ None ∷ []) y

    abbrev with_cost : ℕ
    with_cost = y.cost + 6 + 10 + 6 + 20 + 6 + 8 + 8 + 8 + 8 + 6 + 8 + 6 + 10

    one_loaded : (room : 4 ≤ left y.arena) → word_at (begun 4 (instance_header 1 ∷ []) y.arena) (4 * class + 0) ≡ Some one_word
    one_loaded room =
        let high = is.high in
        let h = heap_high in
        (begun_grows 4 (instance_header 1 ∷ []) arena_there room (omega arith)).heap.words (4 * class + 0) (omega (arith, high, h))
        ∙ ap (word_at y.arena) (omega arith)
        ∙ (class_there setting placed k t raise_credit 0 rs valid w around raises z y begins site class (v ∷ []) (v_word ∷ []) is (of_value, tt)).stands

    with_wants : left y.arena < 4 → with_q ≡ ends (no_room 4 (left y.arena)) (Some class ∷ Some v_word ∷ Some (4 * class) ∷ Some 4 ∷ None ∷ []) (record y { cost = y.cost + 6 + 10 + 6 + 20 })
    unfolding failing_with_code
    with_wants wants =
        let high = is.high in
        (and_then constant_falls
        (and_then (compute_known refl refl (four_times_count class (omega (arith, high))))
        (and_then constant_falls
        (and_ends tt (request_wanting refl wants))))).same

    pub with_comes : CallEnds setting 0 (suc t + making_spare) rs valid w around (charged 1 z) y (signal (context_at setting k) class (v ∷ []) around z) with_q
    with_comes =
        condition_comes setting placed k t raise_credit 0 rs valid w around raises z y begins site class (v ∷ []) (v_word ∷ []) is (of_value, tt) with_q
        (printed_more setting k t (code_of (failing_with_code setting.at)) (Some class ∷ Some v_word ∷ None ∷ None ∷ None ∷ []) y)
        (λ room. ((Some class ∷ Some v_word ∷ Some 2 ∷ Some (y.arena.heap_to + 2) ∷ Some nil_word ∷ []), with_cost, (refl, (refl, tt)), omega arith, omega (arith, low), with_runs cx setting.at y heap_small arena_there.aligned arena_there.heap class v_word one_word is.high room (one_loaded room)))
        (λ wants. ((Some class ∷ Some v_word ∷ Some (4 * class) ∷ Some 4 ∷ None ∷ []), record y { cost = y.cost + 6 + 10 + 6 + 20 }, with_wants wants, refl, omega arith))

  -- ---- a domain error

  module _ (v : Value) (expected v_word : ℕ) (of_value : WordIs setting w v_word v) (known : expected < built_in_classes) where
    expected_there : ValueAt w.places y.arena (class_address expected) (class_value setting.names (tables setting.program) expected)
    expected_there = things.represents.fixed.classes expected known

    abbrev expected_class : Value
    expected_class = class_value setting.names (tables setting.program) expected

    error_is : IsBuiltInCondition domain_error_class 2
    error_is = record { low = omega arith; high = omega arith; slots = refl }

    abbrev error_word : ℕ
    error_word =
        class_word setting placed k t raise_credit 0 rs valid w around raises z y begins site domain_error_class (v ∷ expected_class ∷ []) (v_word ∷ expected_there.word ∷ []) error_is
        (of_value, (expected_there.of_value, tt))

    abbrev domain_q : MidOutcome
    domain_q = exec cx (code_of (domain_code setting.at)) (Some v_word ∷ Some expected ∷ None ∷ None ∷ None ∷ []) y

    abbrev domain_cost : ℕ
    domain_cost = y.cost + 6 + 6 + 20 + 6 + 8 + 8 + 8 + 8 + 6 + 10 + 8 + 8 + 6 + 8 + 6 + 10

    error_loaded : (room : 5 ≤ left y.arena) → word_at (begun 5 (instance_header 2 ∷ []) y.arena) 116 ≡ Some error_word
    error_loaded room =
        let h = heap_high in
        (begun_grows 5 (instance_header 2 ∷ []) arena_there room (omega arith)).heap.words 116 (omega (arith, h))
        ∙ (class_there setting placed k t raise_credit 0 rs valid w around raises z y begins site domain_error_class (v ∷ expected_class ∷ []) (v_word ∷ expected_there.word ∷ []) error_is
        (of_value, (expected_there.of_value, tt))).stands

    expected_loaded : (room : 5 ≤ left y.arena) → word_at (begun 5 (instance_header 2 ∷ error_word ∷ v_word ∷ []) y.arena) (4 * expected + 0) ≡ Some expected_there.word
    expected_loaded room =
        let h = heap_high in
        (begun_grows 5 (instance_header 2 ∷ error_word ∷ v_word ∷ []) arena_there room (omega arith)).heap.words (4 * expected + 0) (omega (arith, known, h))
        ∙ ap (word_at y.arena) (omega arith) ∙ expected_there.stands

    domain_wants : left y.arena < 5 → domain_q ≡ ends (no_room 5 (left y.arena)) (Some v_word ∷ Some expected ∷ Some 116 ∷ Some 5 ∷ None ∷ []) (record y { cost = y.cost + 6 + 6 + 20 })
    unfolding domain_code
    domain_wants wants = (and_then constant_falls (and_then constant_falls (and_ends tt (request_wanting refl wants)))).same

    pub domain_comes : CallEnds setting 0 (suc t + making_spare) rs valid w around (charged 1 z) y (signal (context_at setting k) domain_error_class (v ∷ expected_class ∷ []) around z) domain_q
    domain_comes =
        condition_comes setting placed k t raise_credit 0 rs valid w around raises z y begins site domain_error_class (v ∷ expected_class ∷ []) (v_word ∷ expected_there.word ∷ []) error_is
        (of_value, (expected_there.of_value, tt)) domain_q
        (printed_more setting k t (code_of (domain_code setting.at)) (Some v_word ∷ Some expected ∷ None ∷ None ∷ None ∷ []) y)
        (λ room. ((Some v_word ∷ Some expected ∷ Some 2 ∷ Some (y.arena.heap_to + 2) ∷ Some nil_word ∷ []), domain_cost, (refl, (refl, tt)), omega arith, omega (arith, low), domain_runs cx setting.at y heap_small arena_there.aligned arena_there.heap v_word expected error_word expected_there.word known room (error_loaded room) (expected_loaded room)))
        (λ wants. ((Some v_word ∷ Some expected ∷ Some 116 ∷ Some 5 ∷ None ∷ []), record y { cost = y.cost + 6 + 6 + 20 }, domain_wants wants, refl, omega arith))

-- a unit is left over
from_unit :
    (setting : Setting) {turns : ℕ} {rs valid : List Standing} {w : World} {around : DynamicContext} {z : FlatState} {y : MidState} {r : FlatEvaluated} {q : MidOutcome} → Things setting w z y
    → CallEnds setting 0 turns rs valid w around (charged 1 z) y r q → CallEnds setting 0 turns rs valid w around z y r q
from_unit setting {z = z} {y = y} t e = call_behind setting (world_units setting 1 t) (around_units setting z y 1) {c2 = 0} (omega arith) refl (omega arith) e

-- **a condition of a class without slots is signalled**
pub failing_does :
    (setting : Setting) → IsPlaced setting → (k raise_credit : ℕ) → raise_credit ≤ 1000 → (turns : ℕ) (rs valid : List Standing) (w : World) (around : DynamicContext) → RaisesWithin setting k turns around 0 raise_credit → (z : FlatState)
    (y : MidState) → FailingWithin setting k turns rs valid w around z y making_spare
unfolding failing_code
failing_does setting placed k raise_credit low turns rs valid w around raises z y class is site begins =
    routine_enters setting k (failing_routine setting.at) passing_frame 1 (failing_code setting.at) used (class ∷ []) refl y turns begins.things.represents.printed
    (grown_later (signal_later setting k class [] around z)) (let all = memory_holds setting begins.things in omega (arith, all)) begins.room begins.things.within_limit (omega arith) (omega arith) by
  where
    used : UsedAt setting.procedures (failing_routine setting.at) (framed passing_frame (procedure_with Turn 1 (failing_code setting.at)))
    used = routine_used setting placed 7 (framed passing_frame (procedure_with Turn 1 (failing_code setting.at))) refl

    by : (t : ℕ) → turns ≡ suc t → used.frame ≤ left y.arena
        → CallEnds setting making_credit (turns + making_spare) rs valid w around z y (signal (context_at setting k) class [] around z)
        (leaves y.arena.blocks (exec (code_at setting k t) (code_of (failing_code setting.at)) (routine_registers setting 1 (failing_code setting.at) (class ∷ [])) (laid_frame setting used.frame 1 y)))
    by t same room =
        subst (λ n. CallEnds setting making_credit (n + making_spare) rs valid w around z y (signal (context_at setting k) class [] around z)
        (leaves y.arena.blocks (exec (code_at setting k t) (code_of (failing_code setting.at)) (routine_registers setting 1 (failing_code setting.at) (class ∷ [])) (laid_frame setting used.frame 1 y)))) (sym same)
        (body_leaves setting placed begins.things used.frame 1 room (omega arith)
        (from_unit setting (body_begins setting placed begins.things used.frame 1 room raise_words (let few = used.fewer in omega (arith, few)) begins).things
        (failing_comes setting placed k t raise_credit low rs valid (world_of setting placed w y) around (raises t (omega (arith, same))) z (laid_frame setting used.frame 1 y)
        (body_begins setting placed begins.things used.frame 1 room raise_words (let few = used.fewer in omega (arith, few)) begins)
        (laid_site setting placed begins.things used.frame 1 room around site) class is)))

-- **and one of a class with one slot**
pub failing_with_does :
    (setting : Setting) → IsPlaced setting → (k raise_credit : ℕ) → raise_credit ≤ 1000 → (turns : ℕ) (rs valid : List Standing) (w : World) (around : DynamicContext) → RaisesWithin setting k turns around 0 raise_credit → (z : FlatState)
    (y : MidState) → FailingWithWithin setting k turns rs valid w around z y making_spare
unfolding failing_with_code
failing_with_does setting placed k raise_credit low turns rs valid w around raises z y class v word of_value is site begins =
    routine_enters setting k (failing_with_routine setting.at) passing_frame 2 (failing_with_code setting.at) used (class ∷ word ∷ []) refl y turns begins.things.represents.printed
    (grown_later (signal_later setting k class (v ∷ []) around z)) (let all = memory_holds setting begins.things in omega (arith, all)) begins.room begins.things.within_limit (omega arith) (omega arith) by
  where
    used : UsedAt setting.procedures (failing_with_routine setting.at) (framed passing_frame (procedure_with Turn 2 (failing_with_code setting.at)))
    used = routine_used setting placed 8 (framed passing_frame (procedure_with Turn 2 (failing_with_code setting.at))) refl

    by : (t : ℕ) → turns ≡ suc t → used.frame ≤ left y.arena
        → CallEnds setting making_credit (turns + making_spare) rs valid w around z y (signal (context_at setting k) class (v ∷ []) around z)
        (leaves y.arena.blocks (exec (code_at setting k t) (code_of (failing_with_code setting.at)) (routine_registers setting 2 (failing_with_code setting.at) (class ∷ word ∷ [])) (laid_frame setting used.frame 2 y)))
    by t same room =
        subst (λ n. CallEnds setting making_credit (n + making_spare) rs valid w around z y (signal (context_at setting k) class (v ∷ []) around z)
        (leaves y.arena.blocks (exec (code_at setting k t) (code_of (failing_with_code setting.at)) (routine_registers setting 2 (failing_with_code setting.at) (class ∷ word ∷ [])) (laid_frame setting used.frame 2 y)))) (sym same)
        (body_leaves setting placed begins.things used.frame 2 room (omega arith)
        (from_unit setting (body_begins setting placed begins.things used.frame 2 room raise_words (let few = used.fewer in omega (arith, few)) begins).things
        (with_comes setting placed k t raise_credit low rs valid (world_of setting placed w y) around (raises t (omega (arith, same))) z (laid_frame setting used.frame 2 y)
        (body_begins setting placed begins.things used.frame 2 room raise_words (let few = used.fewer in omega (arith, few)) begins)
        (laid_site setting placed begins.things used.frame 2 room around site) class v word of_value is)))

-- **a domain error is signalled**
pub domain_does :
    (setting : Setting) → IsPlaced setting → (k raise_credit : ℕ) → raise_credit ≤ 1000 → (turns : ℕ) (rs valid : List Standing) (w : World) (around : DynamicContext) → RaisesWithin setting k turns around 0 raise_credit → (z : FlatState)
    (y : MidState) → DomainWithin setting k turns rs valid w around z y making_spare
unfolding domain_code
domain_does setting placed k raise_credit low turns rs valid w around raises z y v expected word known of_value site begins =
    routine_enters setting k (domain_routine setting.at) passing_frame 2 (domain_code setting.at) used (word ∷ expected ∷ []) refl y turns begins.things.represents.printed
    (grown_later (signal_later setting k domain_error_class (v ∷ class_value setting.names (tables setting.program) expected ∷ []) around z)) (let all = memory_holds setting begins.things in omega (arith, all)) begins.room
    begins.things.within_limit (omega arith) (omega arith) by
  where
    used : UsedAt setting.procedures (domain_routine setting.at) (framed passing_frame (procedure_with Turn 2 (domain_code setting.at)))
    used = routine_used setting placed 9 (framed passing_frame (procedure_with Turn 2 (domain_code setting.at))) refl

    by : (t : ℕ) → turns ≡ suc t → used.frame ≤ left y.arena
        → CallEnds setting making_credit (turns + making_spare) rs valid w around z y (signal (context_at setting k) domain_error_class (v ∷ class_value setting.names (tables setting.program) expected ∷ []) around z)
        (leaves y.arena.blocks (exec (code_at setting k t) (code_of (domain_code setting.at)) (routine_registers setting 2 (domain_code setting.at) (word ∷ expected ∷ [])) (laid_frame setting used.frame 2 y)))
    by t same room =
        subst (λ n. CallEnds setting making_credit (n + making_spare) rs valid w around z y (signal (context_at setting k) domain_error_class (v ∷ class_value setting.names (tables setting.program) expected ∷ []) around z)
        (leaves y.arena.blocks (exec (code_at setting k t) (code_of (domain_code setting.at)) (routine_registers setting 2 (domain_code setting.at) (word ∷ expected ∷ [])) (laid_frame setting used.frame 2 y)))) (sym same)
        (body_leaves setting placed begins.things used.frame 2 room (omega arith)
        (from_unit setting (body_begins setting placed begins.things used.frame 2 room raise_words (let few = used.fewer in omega (arith, few)) begins).things
        (domain_comes setting placed k t raise_credit low rs valid (world_of setting placed w y) around (raises t (omega (arith, same))) z (laid_frame setting used.frame 2 y)
        (body_begins setting placed begins.things used.frame 2 room raise_words (let few = used.fewer in omega (arith, few)) begins)
        (laid_site setting placed begins.things used.frame 2 room around site) v expected word of_value known)))
