-- The routines that leave to the innermost exit of a tag: to a catch, and to the signal of a condition.
use Rattle.std.proofs.Common.{◌≡◌, ◌⊎◌, inl, inr, ℕ, suc, ◌+◌, ◌*◌, ◌<◌, ◌≤◌, Bool, true, false, List, [], ◌∷◌, ◌++◌, length, Option, Some, None, refl, sym, ap, ◌∙◌, subst, arith}
use Rattle.std.specs.Prelude.{slice_get, ◌==◌, ◌^◌, not, if◌then◌else◌}
use Rattle.std.proofs.lemmas.Bool.{eq-eqb, ne_eqb}
use Rattle.std.proofs.lemmas.Bool.Decides.{nat_tests}
use Rattle.lang_meaning.specs.Counts.{unit_cost}
use Rattle.lang_meaning.specs.State.{DynamicContext, Exit, ExitKind, block_exit, tagbody_exit, catch_exit, signal_exit, end_exit, at_segment}
use Rattle.lang_meaning.specs.Values.{Value, integer, character, symbol, nil, object, same, is_true}
use Rattle.lang_meaning.specs.Objects.{control_error_class}
use Rattle.lang_meaning.specs.Signals.{is_catch, is_signal, is_continuable}
use Rattle.flat_language.specs.FlatNodes.{tables}
use Rattle.flat_language.specs.FlatSignals.{signal, throw_to, continue_with}
use Rattle.flat_language.specs.FlatState.{FlatState, FlatEvaluated}
use Rattle.flat_language.specs.FlatState.{charged as flat_charged}
use Rattle.flat_language.specs.FlatState.{leaves as flat_leaves}
use Rattle.flat_laws.specs.FlatLater.{FlatLater}
use Rattle.flat_laws.proofs.Applied.{throws, continues}
use Rattle.flat_laws.proofs.Later.{later_kept}
use Rattle.mid_code.specs.declared.operation.Counted.TheVariants.{Turn}
use Rattle.mid_code.specs.declared.operation.Comparison.TheVariants.{Equal}
use Rattle.mid_code.specs.Arena.{left, stack_from}
use Rattle.mid_code.specs.Meaning.{Context, exec, leaves}
use Rattle.mid_code.specs.MidCode.{code_of}
use Rattle.mid_code.specs.State.{Registers, falls, ends, MidState, MidOutcome}
use Rattle.mid_arena.specs.Tags.{nil_word}
use Rattle.mid_arena.specs.Places.{of_other, word_of}
use Rattle.mid_arena.proofs.Growing.{spot_below}
use Rattle.mid_arena.proofs.Running.{StepsTo, and_then, constant_falls, load_falls, store_falls, address_above, address_up}
use Rattle.mid_arena.proofs.Sameness.{same_value_same_word}
use Rattle.back_lowering.specs.ControlWords.{link_address, landing_address, record_mark, catch_kind, signal_kind}
use Rattle.back_lowering.specs.RoutineCodes.{throw_code, continue_code, tag_sought, transfers_to_found, returning}
use Rattle.back_lowering.specs.RoutineCodes.{signals as signals_steps}
use Rattle.back_lowering.specs.Program.{procedure_with, framed, passing_frame}
use Rattle.back_lowering.specs.Routines.{transfer_routine, throw_routine, continue_routine}
use Rattle.back_lowering.specs.Steps.{Steps, constant, load, test_of, if_equal}
use Rattle.back_relation.specs.Setting.{Setting, control_spot}
use Rattle.back_relation.specs.Placed.{IsPlaced}
use Rattle.back_relation.specs.Room.{failing_words}
use Rattle.back_relation.specs.Worlds.{World, LandsIn, Standing, for_exit, IsIn, IsTagged, record_of_exit}
use Rattle.back_relation.specs.StackWords.{HasWordAt, RecordAt, UseAt, TagsAt}
use Rattle.back_relation.specs.Things.{Things}
use Rattle.back_relation.specs.Around.{CallBegins, SiteStored}
use Rattle.back_relation.specs.Ends.{CallEnds, few_turns}
use Rattle.back_relation.specs.Forms.{context_at, code_at}
use Rattle.back_relation.specs.RoutineClaims.{WordIs, ThrowDoes, ContinueDoes}
use Rattle.back_relation.proofs.Growth.{grown_later}
use Rattle.back_relation.proofs.Parts.{IsLast}
use Rattle.back_relation.proofs.Worlds.{word_later}
use Rattle.back_exits.specs.Searches.{Finds, Misses, IsLong}
use Rattle.back_exits.specs.Tags.{along_tags, tag_registers, TagTells, of_kind, of_end, of_other, TagSought, found, missing, TagsWalked}
use Rattle.back_exits.specs.Within.{FailsAt, FailsWithin, transfer_words}
use Rattle.back_exits.proofs.Frames.{memory_holds}
use Rattle.back_exits.proofs.Tags.{tags_law}
use Rattle.back_exits.proofs.Entries.{UsedAt, routine_used, routine_registers, laid_frame, routine_enters}
use Rattle.back_exits.proofs.Within.{call_less, begins_less}
use Rattle.back_exits.proofs.Bodies.{world_of, body_begins, body_leaves, laid_site, of_landing}
use Rattle.back_exits.proofs.Returning.{HoldAll, call_behind, first_alone, second_alone}
use Rattle.back_exits.proofs.Points.{Moved, point_begins, moved_stored, stored_state, word_stored, store_lent, moved_cost}
use Rattle.back_exits.proofs.LeavingRoutine.{tasks_below, signal_later, transfer_used, returning_last, signals_last, transfer_last, failing_last, control_error_is}

turned : (a b : ℕ) → (a == b) ≡ (b == a)
turned a b = grind (arith, nat_tests)

-- the stack is behind the control words
stack_high : (setting : Setting) {w : World} {z : FlatState} {y : MidState} → Things setting w z y → 220 ≤ stack_from y.arena
stack_high setting {w} {z} {y} t =
    let low = spot_below t.represents.arena (t.represents.spots (of_other 1) (control_spot setting) t.control) in
    let high = t.represents.arena.room in
    omega (arith, low, high)

-- ---- what records say

module _ (setting : Setting) {w : World} {z : FlatState} {y : MidState} (t : Things setting w z y) where
  same_word : (tag other : Value) (tag_word word : ℕ) → word_of w.places tag ≡ Some tag_word → word_of w.places other ≡ Some word → (word == tag_word) ≡ same tag other
  same_word tag other tag_word word is at =
      turned word tag_word ∙ same_value_same_word setting.names (tables setting.program) w.places z.state y t.represents tag other tag_word word is at

  -- whether a condition may be continued is told by the word of its mark
  mark_word : (mark : Value) (word : ℕ) → word_of w.places mark ≡ Some word → (word == nil_word) ≡ not (is_true mark)
  mark_word mark word is = same_value_same_word setting.names (tables setting.program) w.places z.state y t.represents mark nil word nil_word is refl ∙ by mark
    where
      by : (v : Value) → same v nil ≡ not (is_true v)
      by nil = refl
      by (integer n) = refl
      by (character c) = refl
      by (symbol s) = refl
      by (object i) = refl

  tags_there : (x : Exit) (v : Standing) → RecordAt w y v → v.role ≡ for_exit x → TagsAt w y v.address x.kind
  tags_there x v at role = let used : UseAt w y v (for_exit x) = subst (λ u. UseAt w y v u) role at.role in used.2

  -- the record of an exit tells whether it is a catch with the tag
  catch_tells :
      (tag : Value) (tag_word : ℕ) → WordIs setting w tag_word tag → (x : Exit) (v : Standing) → RecordAt w y v → v.role ≡ for_exit x
      → TagTells catch_kind tag_word (λ x. is_catch tag x.kind) y x v
  catch_tells tag tag_word is x v at role = by x.kind (tags_there x v at role)
    where
      by : (k : ExitKind) → TagsAt w y v.address k → TagTells catch_kind tag_word (λ x. is_catch tag x.kind) y (record { number = x.number; kind = k }) v
      by block_exit h = of_other refl refl (λ e. cc e) refl
      by tagbody_exit h = of_other refl refl (λ e. cc e) refl
      by (catch_exit other) h = of_kind refl (λ e. cc e) h.word h.stands (same_word tag other tag_word h.word is h.of_value)
      by (signal_exit c mark) h = of_other refl refl (λ e. cc e) refl
      by end_exit h = of_end refl refl refl

  -- or the signal of the condition
  signal_tells :
      (c : Value) (c_word : ℕ) → WordIs setting w c_word c → (x : Exit) (v : Standing) → RecordAt w y v → v.role ≡ for_exit x
      → TagTells signal_kind c_word (λ x. is_signal c x.kind) y x v
  signal_tells c c_word is x v at role = by x.kind (tags_there x v at role)
    where
      by : (k : ExitKind) → TagsAt w y v.address k → TagTells signal_kind c_word (λ x. is_signal c x.kind) y (record { number = x.number; kind = k }) v
      by block_exit h = of_other refl refl (λ e. cc e) refl
      by tagbody_exit h = of_other refl refl (λ e. cc e) refl
      by (catch_exit tag) h = of_other refl refl (λ e. cc e) refl
      by (signal_exit other mark) h = of_kind refl (λ e. cc e) h.0.word h.0.stands (same_word c other c_word h.0.word is h.0.of_value)
      by end_exit h = of_end refl refl refl

  -- the mark of a signal that was found
  pub record MarkThere (x : Exit) (v : Standing) : Type 0 where
    pub word : ℕ
    pub stands : HasWordAt y (v.address + record_mark) word
    pub tells : (word == nil_word) ≡ not (is_continuable x.kind)

  mark_there : (c : Value) (x : Exit) (v : Standing) → RecordAt w y v → v.role ≡ for_exit x → is_signal c x.kind ≡ true → MarkThere x v
  mark_there c x v at role is = by x.kind is (tags_there x v at role)
    where
      by : (k : ExitKind) → is_signal c k ≡ true → TagsAt w y v.address k → MarkThere (record { number = x.number; kind = k }) v
      by block_exit e h = absurd (cc e)
      by tagbody_exit e h = absurd (cc e)
      by (catch_exit tag) e h = absurd (cc e)
      by (signal_exit other mark) e h = record { word = h.1.word; stands = h.1.stands; tells = mark_word mark h.1.word h.1.of_value }
      by end_exit e h = absurd (cc e)

is_tagged_catch : (tag : Value) (k : ExitKind) → is_catch tag k ≡ true → IsTagged k
is_tagged_catch tag block_exit e = absurd (cc e)
is_tagged_catch tag tagbody_exit e = absurd (cc e)
is_tagged_catch tag (catch_exit other) e = tt
is_tagged_catch tag (signal_exit c mark) e = absurd (cc e)
is_tagged_catch tag end_exit e = absurd (cc e)

is_tagged_signal : (c : Value) (k : ExitKind) → is_signal c k ≡ true → IsTagged k
is_tagged_signal c block_exit e = absurd (cc e)
is_tagged_signal c tagbody_exit e = absurd (cc e)
is_tagged_signal c (catch_exit other) e = absurd (cc e)
is_tagged_signal c (signal_exit other mark) e = tt
is_tagged_signal c end_exit e = absurd (cc e)

-- a transfer to such an exit lands, whoever made it
lands_where_tagged :
    (setting : Setting) {rs valid : List Standing} {n : ℕ} {w : World} {around : DynamicContext} {z : FlatState} {y : MidState} → CallBegins setting rs valid n w around z y
    → (x : Exit) (v : Standing) → IsIn v rs → v.role ≡ for_exit x → IsTagged x.kind → LandsIn (slice_get w.exit_forms x.number) (at_segment 0)
lands_where_tagged setting begins x v stands role tagged = subst (λ o. LandsIn o (at_segment 0)) (sym (begins.around_stands.tags_land x v stands role tagged)) tt

-- ---- the body

module _ (setting : Setting) (placed : IsPlaced setting) (k t : ℕ) (rs valid : List Standing) (w : World) (around : DynamicContext) (fails : FailsAt setting k t around) (z : FlatState) (y : MidState)
    (begins : CallBegins setting rs valid failing_words w around z y) (site : SiteStored setting around y) (kind tag word : ℕ) (v : Value) (of_value : WordIs setting w word v) where
  open begins use {things, around_stands}

  abbrev c : Context
  c = code_at setting k t

  abbrev registers_first : Registers
  registers_first = Some tag ∷ Some word ∷ None ∷ None ∷ None ∷ None ∷ None ∷ []

  abbrev Comes : FlatEvaluated → MidOutcome → Type 0
  Comes r q = CallEnds setting 268 (suc t + 0) rs valid w around z y r q

  abbrev Walked : (Exit → Bool) → Type 0
  Walked p = TagsWalked setting.procedures c.below t kind tag word p y rs z.state.exits around_stands.link None None None (y.cost + 6 + 8) around.exits valid

  -- up to what comes behind the search
  runs :
      (p : Exit → Bool) (walked : Walked p) (rest : Steps) {q : MidOutcome}
      → exec c (code_of rest) (tag_registers tag word walked.at walked.last4 walked.last5 walked.last6) (record y { cost = walked.total }) ≡ q
      → exec c (code_of (tag_sought setting.at kind ++ rest)) registers_first y ≡ q
  runs p walked rest same =
      (and_then constant_falls
      (and_then (load_falls refl (address_above 0 link_address link_address (omega arith) (omega arith)) around_stands.link_word)
      (and_then walks (record { same = same })))).same
    where
      walks : StepsTo c (along_tags kind) (tag_registers tag word around_stands.link None None None) (record y { cost = y.cost + 6 + 8 })
          (ends falls (tag_registers tag word walked.at walked.last4 walked.last5 walked.last6) (record y { cost = walked.total }))
      walks = record { same = walked.run }

  -- the transfer to the record that was found
  module _ (passed cost at : ℕ) (r4 r5 r6 : Option ℕ) (x : Exit) (target : Standing) (at_is : at ≡ target.address) where
    abbrev y3 : MidState
    y3 = stored_state setting placed things landing_address of_landing 0 (passed + 1) (cost + 8)

    moved : Moved setting (passed + 1) w (world_of setting placed w y) z y y3
    moved = moved_stored setting placed things landing_address of_landing 0 (passed + 1) (cost + 8)

    held : HoldAll (3 ∷ 1 ∷ []) (tag_registers tag word at r4 r5 r6) (target.address ∷ word ∷ [])
    held = (ap (λ n. Some n) at_is, (refl, tt))

    store_runs :
        exec c (code_of (transfers_to_found setting.at)) (tag_registers tag word at r4 r5 r6) (record y { cost = cost })
        ≡ exec c (code_of (returning setting.at 6 (transfer_routine setting.at) (3 ∷ 1 ∷ []))) (tag_registers tag word at r4 r5 r6) y3
    store_runs =
        (and_then (store_falls refl refl (address_above 0 landing_address landing_address (omega arith) (omega arith)) (store_lent setting placed things landing_address of_landing)) (record { same = refl })).same

    found_last : IsLast (exec c (code_of (transfers_to_found setting.at)) (tag_registers tag word at r4 r5 r6) (record y { cost = cost })).end
    found_last =
        subst (λ (q : MidOutcome). IsLast q.end) (sym store_runs)
        (returning_last setting k t 6 (transfer_routine setting.at) (3 ∷ 1 ∷ []) (target.address ∷ word ∷ []) (tag_registers tag word at r4 r5 r6) y3 (transfer_used setting placed).there held (omega arith))

    found_comes :
        cost + 448 ≤ y.cost + unit_cost * (passed + 1) + 268 → record_of_exit x.number around.exits valid ≡ Some target → LandsIn (slice_get w.exit_forms x.number) (at_segment 0)
        → Comes (flat_leaves x.number v (at_segment 0) (flat_charged (passed + 1) z)) (exec c (code_of (transfers_to_found setting.at)) (tag_registers tag word at r4 r5 r6) (record y { cost = cost }))
    found_comes few there lands =
        subst (λ q. Comes (flat_leaves x.number v (at_segment 0) (flat_charged (passed + 1) z)) q) (sym store_runs)
        (call_behind setting moved.world moved.around {c2 = 426} (omega (arith, few)) refl (omega arith)
        (transfer_last setting placed k t 6 3 1 word (tag_registers tag word at r4 r5 r6) x.number v (at_segment 0) target 0
        (begins_less setting transfer_words (omega arith) (point_begins setting moved.world moved.around begins)) held (omega arith) there
        (word_later moved.world.later v word of_value) (word_stored setting placed things landing_address of_landing 0 (passed + 1) (cost + 8)) refl lands))

  -- a control error
  fails_comes :
      (u cost : ℕ) (regs : Registers) → 6 < length regs → 1 ≤ u → cost + 516 ≤ y.cost + unit_cost * u + 268
      → Comes (signal (context_at setting k) control_error_class [] around (flat_charged u z)) (exec c (code_of (signals_steps setting.at 6 control_error_class)) regs (record y { cost = cost }))
  fails_comes u cost regs low some few =
      let there = moved_cost setting placed things u cost in
      call_behind setting there.world there.around {c2 = 516} (omega (arith, few)) refl (omega (arith, some))
      (failing_last setting placed k t fails 6 control_error_class regs control_error_is (point_begins setting there.world there.around begins) (there.site around site) low)

  -- no valid exit was found
  not_zero : (at : ℕ) (target : Standing) → IsIn target rs → at ≡ target.address → (at == 0) ≡ false
  not_zero at target stands same =
      let high = stack_high setting things in
      let low = (around_stands.records target stands).low in
      ne_eqb at 0 (λ zero. omega (arith, same, zero, high, low))

  searched : (p : Exit → Bool) → ((x : Exit) (v : Standing) → IsIn v rs → v.role ≡ for_exit x → TagTells kind tag p y x v) → Walked p ⊎ IsLong p around.exits t
  searched p tells =
      tags_law setting.procedures c.below kind tag word p w y rs around.exits valid t around_stands.link z.state.exits None None None (y.cost + 6 + 8) things.represents.arena.size around_stands.records tells
      around_stands.links around_stands.ends_at_end

-- ---- throw

module _ (setting : Setting) (placed : IsPlaced setting) (k t : ℕ) (rs valid : List Standing) (w : World) (around : DynamicContext) (fails : FailsAt setting k t around) (z : FlatState) (y : MidState)
    (begins : CallBegins setting rs valid failing_words w around z y) (site : SiteStored setting around y) (tag v : Value) (tag_word word : ℕ) (of_tag : WordIs setting w tag_word tag)
    (of_value : WordIs setting w word v) where
  abbrev failing_steps : Steps
  failing_steps = signals_steps setting.at 6 control_error_class

  abbrev found_steps : Steps
  found_steps = transfers_to_found setting.at

  abbrev context : Context
  context = code_at setting k t

  -- where the search is done
  module _ (kind : ℕ) (p : Exit → Bool) (walked : Walked setting placed k t rs valid w around fails z y begins site kind tag_word word v of_value p) where
    abbrev registers_then : Registers
    registers_then = tag_registers tag_word word walked.at walked.last4 walked.last5 walked.last6

    abbrev y_walked : MidState
    y_walked = record y { cost = walked.total }

  -- ---- to a catch

  abbrev is_catch_of : Exit → Bool
  is_catch_of x = is_catch tag x.kind

  abbrev thrown : FlatEvaluated
  thrown = throw_to (context_at setting k) tag v around z

  abbrev ThrowEnds : Type 0
  ThrowEnds =
      CallEnds setting 268 (suc t + 0) rs valid w around z y thrown
      (exec context (code_of (throw_code setting.at)) (registers_first setting placed k t rs valid w around fails z y begins site catch_kind tag_word word v of_value) y)

  abbrev throw_choice : Steps
  throw_choice = if_equal 3 2 failing_steps found_steps ∷ []

  throw_sought : (walked : Walked setting placed k t rs valid w around fails z y begins site catch_kind tag_word word v of_value is_catch_of)
      → TagSought is_catch_of rs z.state.exits around.exits valid walked.passed walked.at → ThrowEnds
  unfolding throw_code
  throw_sought walked (found x target is less at_is stands role there finds) =
      let here = second_alone context (test_of Equal 3 2) (code_of failing_steps) (code_of found_steps) (registers_then catch_kind is_catch_of walked) (y_walked catch_kind is_catch_of walked) refl refl
      (not_zero setting placed k t rs valid w around fails z y begins site catch_kind tag_word word v of_value walked.at target stands at_is)
      (found_last setting placed k t rs valid w around fails z y begins site catch_kind tag_word word v of_value walked.passed (walked.total + 12) walked.at walked.last4 walked.last5 walked.last6 x target at_is) in
      subst (λ q. CallEnds setting 268 (suc t + 0) rs valid w around z y thrown q)
      (sym (runs setting placed k t rs valid w around fails z y begins site catch_kind tag_word word v of_value is_catch_of walked throw_choice here))
      (subst
      (λ p. CallEnds setting 268 (suc t + 0) rs valid w around z y p (exec context (code_of found_steps) (registers_then catch_kind is_catch_of walked) (record y { cost = walked.total + 12 })))
      (sym (finds (λ x. flat_leaves x.number v (at_segment 0)) (signal (context_at setting k) control_error_class [] around) z))
      (found_comes setting placed k t rs valid w around fails z y begins site catch_kind tag_word word v of_value walked.passed (walked.total + 12) walked.at walked.last4 walked.last5 walked.last6 x target at_is
      (let within = walked.within in omega (arith, within)) there (lands_where_tagged setting begins x target stands role (is_tagged_catch tag x.kind is))))
  throw_sought walked (missing none count misses) =
      let here = first_alone context (test_of Equal 3 2) (code_of failing_steps) (code_of found_steps) (registers_then catch_kind is_catch_of walked) (y_walked catch_kind is_catch_of walked) refl refl
      (eq-eqb walked.at 0 none)
      (signals_last setting placed k t 6 control_error_class (registers_then catch_kind is_catch_of walked) (record y { cost = walked.total + 12 }) (omega arith)) in
      subst (λ q. CallEnds setting 268 (suc t + 0) rs valid w around z y thrown q)
      (sym (runs setting placed k t rs valid w around fails z y begins site catch_kind tag_word word v of_value is_catch_of walked throw_choice here))
      (subst
      (λ p. CallEnds setting 268 (suc t + 0) rs valid w around z y p (exec context (code_of failing_steps) (registers_then catch_kind is_catch_of walked) (record y { cost = walked.total + 12 })))
      (sym (misses (λ x. flat_leaves x.number v (at_segment 0)) (signal (context_at setting k) control_error_class [] around) z))
      (fails_comes setting placed k t rs valid w around fails z y begins site catch_kind tag_word word v of_value (length around.exits) (walked.total + 12) (registers_then catch_kind is_catch_of walked)
      (omega arith) (omega (arith, count)) (let within = walked.within in omega (arith, within, count))))

  -- ---- to the signal of a condition, where the tag is the condition

  abbrev is_signal_of : Exit → Bool
  is_signal_of x = is_signal tag x.kind

  abbrev continued : FlatEvaluated
  continued = continue_with (context_at setting k) tag v around z

  abbrev ContinueEnds : Type 0
  ContinueEnds =
      CallEnds setting 268 (suc t + 0) rs valid w around z y continued
      (exec context (code_of (continue_code setting.at)) (registers_first setting placed k t rs valid w around fails z y begins site signal_kind tag_word word v of_value) y)

  abbrev mark_steps : Steps
  mark_steps = load 4 3 record_mark ∷ constant 5 nil_word ∷ if_equal 4 5 failing_steps found_steps ∷ []

  abbrev continue_choice : Steps
  continue_choice = if_equal 3 2 failing_steps mark_steps ∷ []

  module _ (walked : Walked setting placed k t rs valid w around fails z y begins site signal_kind tag_word word v of_value is_signal_of) where
    abbrev signal_then : Registers
    signal_then = registers_then signal_kind is_signal_of walked

    -- the exit was found: what its mark says
    module _ (x : Exit) (target : Standing) (is : is_signal_of x ≡ true) (at_is : walked.at ≡ target.address) (stands : IsIn target rs) (role : target.role ≡ for_exit x)
        (there : record_of_exit x.number around.exits valid ≡ Some target) (finds : Finds is_signal_of around.exits x walked.passed) where
      mark : MarkThere setting begins.things x target
      mark = mark_there setting begins.things tag x target (begins.around_stands.records target stands) role is

      abbrev marked : Registers
      marked = tag_registers tag_word word walked.at (Some mark.word) (Some nil_word) walked.last6

      mark_low : walked.at + record_mark < 2 ^ 32
      mark_low =
          let high = (begins.around_stands.records target stands).high in
          let small = begins.things.represents.arena.size in
          omega (arith, at_is, high, small)

      mark_loaded : HasWordAt y (walked.at + record_mark) mark.word
      mark_loaded = subst (λ a. HasWordAt y (a + record_mark) mark.word) (sym at_is) mark.stands

      mark_runs : {q : MidOutcome} → exec context (code_of (if_equal 4 5 failing_steps found_steps ∷ [])) marked (record y { cost = walked.total + 12 + 8 + 6 }) ≡ q
          → exec context (code_of mark_steps) signal_then (record y { cost = walked.total + 12 }) ≡ q
      mark_runs same =
          (and_then (load_falls refl (address_up walked.at record_mark mark_low) mark_loaded) (and_then constant_falls (record { same = same }))).same

      abbrev Chosen : Bool → FlatEvaluated
      Chosen b =
          if b then flat_leaves x.number v (at_segment 0) (flat_charged (walked.passed + 1) z)
          else signal (context_at setting k) control_error_class [] around (flat_charged (walked.passed + 1) z)

      -- what the choice by the mark comes to
      record MarkChosen (b : Bool) : Type 0 where
        pub last : IsLast (exec context (code_of mark_steps) signal_then (record y { cost = walked.total + 12 })).end
        pub comes : CallEnds setting 268 (suc t + 0) rs valid w around z y (Chosen b) (exec context (code_of mark_steps) signal_then (record y { cost = walked.total + 12 }))

      chosen : (b : Bool) → is_continuable x.kind ≡ b → MarkChosen b
      chosen true e =
          let other : (mark.word == nil_word) ≡ false = mark.tells ∙ ap not e in
          let last = found_last setting placed k t rs valid w around fails z y begins site signal_kind tag_word word v of_value walked.passed (walked.total + 12 + 8 + 6 + 12) walked.at (Some mark.word) (Some nil_word) walked.last6 x target at_is in
          let here = mark_runs (second_alone context (test_of Equal 4 5) (code_of failing_steps) (code_of found_steps) marked (record y { cost = walked.total + 12 + 8 + 6 }) refl refl other last) in
          record {
            last = subst (λ (q : MidOutcome). IsLast q.end) (sym here) last;
            comes =
                subst (λ q. CallEnds setting 268 (suc t + 0) rs valid w around z y (Chosen true) q) (sym here)
                (found_comes setting placed k t rs valid w around fails z y begins site signal_kind tag_word word v of_value walked.passed (walked.total + 12 + 8 + 6 + 12) walked.at (Some mark.word) (Some nil_word) walked.last6 x target at_is
                (let within = walked.within in omega (arith, within)) there (lands_where_tagged setting begins x target stands role (is_tagged_signal tag x.kind is)));
          }
      chosen false e =
          let same : (mark.word == nil_word) ≡ true = mark.tells ∙ ap not e in
          let last = signals_last setting placed k t 6 control_error_class marked (record y { cost = walked.total + 12 + 8 + 6 + 12 }) (omega arith) in
          let here = mark_runs (first_alone context (test_of Equal 4 5) (code_of failing_steps) (code_of found_steps) marked (record y { cost = walked.total + 12 + 8 + 6 }) refl refl same last) in
          record {
            last = subst (λ (q : MidOutcome). IsLast q.end) (sym here) last;
            comes =
                subst (λ q. CallEnds setting 268 (suc t + 0) rs valid w around z y (Chosen false) q) (sym here)
                (fails_comes setting placed k t rs valid w around fails z y begins site signal_kind tag_word word v of_value (walked.passed + 1) (walked.total + 12 + 8 + 6 + 12) marked (omega arith) (omega arith)
                (let within = walked.within in omega (arith, within)));
          }

      continue_found : ContinueEnds
      unfolding continue_code
      continue_found =
          let by_mark = chosen (is_continuable x.kind) refl in
          let here = second_alone context (test_of Equal 3 2) (code_of failing_steps) (code_of mark_steps) signal_then (record y { cost = walked.total }) refl refl
          (not_zero setting placed k t rs valid w around fails z y begins site signal_kind tag_word word v of_value walked.at target stands at_is) by_mark.last in
          subst (λ q. CallEnds setting 268 (suc t + 0) rs valid w around z y continued q)
          (sym (runs setting placed k t rs valid w around fails z y begins site signal_kind tag_word word v of_value is_signal_of walked continue_choice here))
          (subst (λ p. CallEnds setting 268 (suc t + 0) rs valid w around z y p (exec context (code_of mark_steps) signal_then (record y { cost = walked.total + 12 })))
          (sym (finds (λ x n. if is_continuable x.kind then flat_leaves x.number v (at_segment 0) n else signal (context_at setting k) control_error_class [] around n)
          (signal (context_at setting k) control_error_class [] around) z))
          by_mark.comes)

    continue_missing : walked.at ≡ 0 → walked.passed + 1 ≡ length around.exits → Misses is_signal_of around.exits → ContinueEnds
    unfolding continue_code
    continue_missing none count misses =
        let here = first_alone context (test_of Equal 3 2) (code_of failing_steps) (code_of mark_steps) signal_then (record y { cost = walked.total }) refl refl
        (eq-eqb walked.at 0 none)
        (signals_last setting placed k t 6 control_error_class signal_then (record y { cost = walked.total + 12 }) (omega arith)) in
        subst (λ q. CallEnds setting 268 (suc t + 0) rs valid w around z y continued q)
        (sym (runs setting placed k t rs valid w around fails z y begins site signal_kind tag_word word v of_value is_signal_of walked continue_choice here))
        (subst
        (λ p. CallEnds setting 268 (suc t + 0) rs valid w around z y p (exec context (code_of failing_steps) signal_then (record y { cost = walked.total + 12 })))
        (sym (misses (λ x n. if is_continuable x.kind then flat_leaves x.number v (at_segment 0) n else signal (context_at setting k) control_error_class [] around n)
        (signal (context_at setting k) control_error_class [] around) z))
        (fails_comes setting placed k t rs valid w around fails z y begins site signal_kind tag_word word v of_value (length around.exits) (walked.total + 12) signal_then
        (omega arith) (omega (arith, count)) (let within = walked.within in omega (arith, within, count))))

    continue_sought : TagSought is_signal_of rs z.state.exits around.exits valid walked.passed walked.at → ContinueEnds
    continue_sought (found x target is less at_is stands role there finds) = continue_found x target is at_is stands role there finds
    continue_sought (missing none count misses) = continue_missing none count misses

  continue_comes : ContinueEnds
  continue_comes =
      by (searched setting placed k t rs valid w around fails z y begins site signal_kind tag_word word v of_value is_signal_of
      (λ x u stands role. signal_tells setting begins.things tag tag_word of_tag x u (begins.around_stands.records u stands) role))
    where
      grows : (b : Bool) (x : Exit) (n : FlatState)
          → n.state.units ≤ (if b then flat_leaves x.number v (at_segment 0) n else signal (context_at setting k) control_error_class [] around n).state.state.units
      grows true x n = omega arith
      grows false x n = (grown_later (signal_later setting k control_error_class [] around n)).units

      by : Walked setting placed k t rs valid w around fails z y begins site signal_kind tag_word word v of_value is_signal_of ⊎ IsLong is_signal_of around.exits t → ContinueEnds
      by (inl walked) = continue_sought walked walked.sought
      by (inr long) =
          let charges = long (λ x n. if is_continuable x.kind then flat_leaves x.number v (at_segment 0) n else signal (context_at setting k) control_error_class [] around n)
          (signal (context_at setting k) control_error_class [] around) (λ x n. grows (is_continuable x.kind) x n)
          (λ n. (grown_later (signal_later setting k control_error_class [] around n)).units) z in
          few_turns (omega (arith, charges))

  throw_comes : ThrowEnds
  throw_comes =
      by (searched setting placed k t rs valid w around fails z y begins site catch_kind tag_word word v of_value is_catch_of
      (λ x u stands role. catch_tells setting begins.things tag tag_word of_tag x u (begins.around_stands.records u stands) role))
    where
      by : Walked setting placed k t rs valid w around fails z y begins site catch_kind tag_word word v of_value is_catch_of ⊎ IsLong is_catch_of around.exits t → ThrowEnds
      by (inl walked) = throw_sought walked walked.sought
      by (inr long) =
          let charges = long (λ x. flat_leaves x.number v (at_segment 0)) (signal (context_at setting k) control_error_class [] around) (λ x y. omega arith)
          (λ y. (grown_later (signal_later setting k control_error_class [] around y)).units) z in
          few_turns (omega (arith, charges))

-- **the routine that leaves to a catch**
pub throw_does :
    (setting : Setting) → IsPlaced setting → (k turns : ℕ) → (rs valid : List Standing) (w : World) (around : DynamicContext) → FailsWithin setting k turns around → (z : FlatState) (y : MidState)
    → ThrowDoes setting k turns rs valid w around z y
unfolding throw_code
throw_does setting placed k turns rs valid w around fails z y tag v tag_word word of_tag of_value site begins =
    call_less setting (omega arith) (omega arith)
    (routine_enters setting k (throw_routine setting.at) passing_frame 2 (throw_code setting.at) used (tag_word ∷ word ∷ []) refl y turns begins.things.represents.printed
    (grown_later (throws {R = FlatLater} {k = later_kept} (context_at setting k) (tasks_below setting k) tag v around z).grows)
    (let all = memory_holds setting begins.things in omega (arith, all)) begins.room begins.things.within_limit (omega arith) (omega arith) by)
  where
    used : UsedAt setting.procedures (throw_routine setting.at) (framed passing_frame (procedure_with Turn 2 (throw_code setting.at)))
    used = routine_used setting placed 2 (framed passing_frame (procedure_with Turn 2 (throw_code setting.at))) refl

    by : (t : ℕ) → turns ≡ suc t → used.frame ≤ left y.arena
        → CallEnds setting 300 (turns + 0) rs valid w around z y (throw_to (context_at setting k) tag v around z)
        (leaves y.arena.blocks (exec (code_at setting k t) (code_of (throw_code setting.at)) (routine_registers setting 2 (throw_code setting.at) (tag_word ∷ word ∷ [])) (laid_frame setting used.frame 2 y)))
    by t same room =
        subst (λ n. CallEnds setting 300 (n + 0) rs valid w around z y (throw_to (context_at setting k) tag v around z)
        (leaves y.arena.blocks (exec (code_at setting k t) (code_of (throw_code setting.at)) (routine_registers setting 2 (throw_code setting.at) (tag_word ∷ word ∷ [])) (laid_frame setting used.frame 2 y)))) (sym same)
        (body_leaves setting placed begins.things used.frame 2 room (omega arith)
        (throw_comes setting placed k t rs valid (world_of setting placed w y) around (fails t (omega (arith, same))) z (laid_frame setting used.frame 2 y)
        (body_begins setting placed begins.things used.frame 2 room failing_words (let few = used.fewer in omega (arith, few)) begins)
        (laid_site setting placed begins.things used.frame 2 room around site) tag v tag_word word of_tag of_value))

-- **the routine that leaves to the signal of a condition**
pub continue_does :
    (setting : Setting) → IsPlaced setting → (k turns : ℕ) → (rs valid : List Standing) (w : World) (around : DynamicContext) → FailsWithin setting k turns around → (z : FlatState) (y : MidState)
    → ContinueDoes setting k turns rs valid w around z y
unfolding continue_code
continue_does setting placed k turns rs valid w around fails z y tag v tag_word word of_tag of_value site begins =
    call_less setting (omega arith) (omega arith)
    (routine_enters setting k (continue_routine setting.at) passing_frame 2 (continue_code setting.at) used (tag_word ∷ word ∷ []) refl y turns begins.things.represents.printed
    (grown_later (continues {R = FlatLater} {k = later_kept} (context_at setting k) (tasks_below setting k) tag v around z).grows)
    (let all = memory_holds setting begins.things in omega (arith, all)) begins.room begins.things.within_limit (omega arith) (omega arith) by)
  where
    used : UsedAt setting.procedures (continue_routine setting.at) (framed passing_frame (procedure_with Turn 2 (continue_code setting.at)))
    used = routine_used setting placed 3 (framed passing_frame (procedure_with Turn 2 (continue_code setting.at))) refl

    by : (t : ℕ) → turns ≡ suc t → used.frame ≤ left y.arena
        → CallEnds setting 300 (turns + 0) rs valid w around z y (continue_with (context_at setting k) tag v around z)
        (leaves y.arena.blocks (exec (code_at setting k t) (code_of (continue_code setting.at)) (routine_registers setting 2 (continue_code setting.at) (tag_word ∷ word ∷ [])) (laid_frame setting used.frame 2 y)))
    by t same room =
        subst (λ n. CallEnds setting 300 (n + 0) rs valid w around z y (continue_with (context_at setting k) tag v around z)
        (leaves y.arena.blocks (exec (code_at setting k t) (code_of (continue_code setting.at)) (routine_registers setting 2 (continue_code setting.at) (tag_word ∷ word ∷ [])) (laid_frame setting used.frame 2 y)))) (sym same)
        (body_leaves setting placed begins.things used.frame 2 room (omega arith)
        (continue_comes setting placed k t rs valid (world_of setting placed w y) around (fails t (omega (arith, same))) z (laid_frame setting used.frame 2 y)
        (body_begins setting placed begins.things used.frame 2 room failing_words (let few = used.fewer in omega (arith, few)) begins)
        (laid_site setting placed begins.things used.frame 2 room around site) tag v tag_word word of_tag of_value))
