-- A new condition is made and signalled: what the meaning does, from what the code comes to.
use Rattle.std.proofs.Common.{◌≡◌, ℕ, suc, ◌+◌, ◌*◌, ◌<◌, ◌≤◌, Bool, true, false, List, [], ◌∷◌, ◌++◌, length, map, Some, refl, sym, ap, ◌∙◌, subst, arith}
use Rattle.std.specs.Prelude.{if◌then◌else◌}
use Rattle.std.proofs.lemmas.Bool.Decides.{nat_tests}
use Rattle.base.specs.Names.{slice_get-behind}
use Rattle.lang_meaning.specs.Counts.{unit_cost}
use Rattle.lang_meaning.specs.Classes.{is_condition, is_below, class_of_object}
use Rattle.lang_meaning.specs.InitialHeap.{class_value}
use Rattle.lang_meaning.specs.Objects.{instance, serious_condition_class}
use Rattle.lang_meaning.specs.Prefixes.{IsPrefix}
use Rattle.lang_meaning.specs.State.{DynamicContext, Limit, words, unlimited, full, has_room, room_left}
use Rattle.lang_meaning.specs.State as meaning
use Rattle.lang_meaning.specs.Values.{Value, nil, object}
use Rattle.flat_language.specs.FlatNodes.{tables}
use Rattle.flat_language.specs.FlatSignals.{signal, signal_under}
use Rattle.flat_language.specs.FlatState.{FlatState, FlatEvaluated}
use Rattle.flat_language.specs.FlatState.{charged as flat_charged}
use Rattle.mid_code.specs.Arena.{left}
use Rattle.mid_code.specs.Law.{Grown}
use Rattle.mid_code.specs.Meaning.{Context, exec}
use Rattle.mid_code.specs.MidCode.{MidCode, code_of}
use Rattle.mid_code.specs.State.{Registers, no_room, ends, charged, MidState, MidOutcome}
use Rattle.mid_code.proofs.Growth.{exec_grown, levels_grow, turns_grow}
use Rattle.mid_arena.specs.Tags.{nil_word}
use Rattle.mid_arena.specs.FixedWords.{class_address}
use Rattle.mid_arena.specs.Places.{WordsOf}
use Rattle.mid_arena.specs.Standing.{ValueAt}
use Rattle.mid_arena.proofs.BuiltInFacts.{is_condition_class}
use Rattle.mid_arena.proofs.Keeping.{words_of_condition}
use Rattle.mid_arena.proofs.Making.{Room, room_for, is_left, is_wanting}
use Rattle.mid_code.specs.declared.operation.Counted.TheVariants.{Turn}
use Rattle.back_lowering.specs.ControlWords.{site_address}
use Rattle.back_lowering.specs.RoutineCodes.{raise_code, returning}
use Rattle.back_lowering.specs.Program.{procedure_with, framed, raise_frame}
use Rattle.back_lowering.specs.Routines.{raise_routine}
use Rattle.back_relation.specs.Setting.{Setting}
use Rattle.back_relation.specs.Placed.{IsPlaced}
use Rattle.back_relation.specs.Room.{words_for_handler, raise_words}
use Rattle.back_relation.specs.Worlds.{World, Standing}
use Rattle.back_relation.specs.Things.{WithinLimit}
use Rattle.back_relation.specs.Around.{RoomFor, CallBegins, SiteStored}
use Rattle.back_relation.specs.Ends.{WorldKept, Around, RoomEnded, CallEnds, full_there, stopped}
use Rattle.back_relation.specs.Forms.{context_at, code_at}
use Rattle.back_relation.proofs.Growth.{grown_later}
use Rattle.back_relation.proofs.Standing.{world_behind, world_kept_behind, control_behind}
use Rattle.back_relation.specs.RoutineClaims.{IsBuiltInCondition}
use Rattle.back_exits.proofs.Entries.{UsedAt, routine_used}
use Rattle.back_exits.proofs.LeavingRoutine.{signal_later, begins_charged, tasks_below}
use Rattle.back_exits.proofs.Points.{point_begins}
use Rattle.back_exits.proofs.Returning.{HoldAll, call_behind, returning_comes}
use Rattle.back_conditions.specs.Within.{RaisesAt, making_spare}
use Rattle.back_conditions.proofs.Conditions.{is_class, state_made, places_made, meaning_made, made_behind, pointer_is, made_charged, word_made_before}
use Rattle.flat_laws.specs.FlatLater.{FlatLater}
use Rattle.flat_laws.proofs.Applied.{signals_under}
use Rattle.flat_laws.proofs.Later.{later_kept}

pub raise_used : (setting : Setting) → IsPlaced setting → UsedAt setting.procedures (raise_routine setting.at) (framed raise_frame (procedure_with Turn 2 (raise_code setting.at)))
raise_used setting placed = routine_used setting placed 4 (framed raise_frame (procedure_with Turn 2 (raise_code setting.at))) refl

-- code only prints
pub printed_more : (setting : Setting) (k t : ℕ) (code : MidCode) (regs : Registers) (y : MidState) → Grown y (exec (code_at setting k t) code regs y).state
printed_more setting k t code regs y =
    exec_grown (code_at setting k t) (levels_grow setting.procedures setting.turns_each k) (turns_grow setting.procedures _ (levels_grow setting.procedures setting.turns_each k) t) code regs y

module _ (setting : Setting) (placed : IsPlaced setting) (k t raise_credit credit : ℕ) (rs valid : List Standing) (w : World) (around : DynamicContext) (raises : RaisesAt setting k t around 0 raise_credit) (z : FlatState) (y : MidState)
    (begins : CallBegins setting rs valid raise_words w around z y) (site : SiteStored setting around y) (class : ℕ) (vs : List Value) (ws : List ℕ) (is : IsBuiltInCondition class (length vs))
    (are : WordsOf w.places vs ws) where
  open begins use {things}

  abbrev cx : Context
  cx = code_at setting k t

  abbrev r : FlatEvaluated
  r = signal (context_at setting k) class vs around z

  pub class_there : ValueAt w.places y.arena (class_address class) (class_value setting.names (tables setting.program) class)
  class_there = things.represents.fixed.classes class is.high

  abbrev pub class_word : ℕ
  class_word = class_there.word

  abbrev Comes : MidOutcome → Type 0
  Comes q = CallEnds setting credit (suc t + making_spare) rs valid w around (flat_charged 1 z) y r q

  -- the meaning, where the words of the condition are known
  abbrev pub with_size : (size : ℕ) → Bool → FlatEvaluated
  with_size size fits =
      if fits then
      signal_under (context_at setting k) around.handlers (object (length z.state.store)) nil around
      (record z { state = meaning.stored (instance class (map (λ v. Some v) vs) nil) (meaning.charged (size + 0) (meaning.with_words size 0 z.state)) })
      else record { outcome = full (size + 0) (room_left setting.limit (z.state.heap + z.state.stack)); state = z }

  pub meant : r ≡ with_size (3 + length vs) (has_room setting.limit (z.state.heap + z.state.stack + (3 + length vs) + 0))
  meant =
      let low = is.low in
      let size = words_of_condition (tables setting.program) class (length vs) (is_condition_class (tables setting.program) things.represents.built_in class (omega (arith, low)) is.high) in
      ap (λ n. with_size n (has_room setting.limit (z.state.heap + z.state.stack + n + 0))) size

  -- its words are charged
  charged_at_least :
      has_room setting.limit (z.state.heap + z.state.stack + (3 + length vs) + 0) ≡ true → z.state.units + 3 ≤ r.state.state.units
  charged_at_least fits =
      subst (λ (p : FlatEvaluated). z.state.units + 3 ≤ p.state.state.units) (sym (meant ∙ ap (with_size (3 + length vs)) fits))
      (let later = (signals_under {R = FlatLater} {k = later_kept} (context_at setting k) (tasks_below setting k) around.handlers (object (length z.state.store)) nil around stored_at).grows in
      let up = later.later.units in
      omega (arith, up))
    where
      stored_at : FlatState
      stored_at = record z { state = meaning.stored (instance class (map (λ v. Some v) vs) nil) (meaning.charged (3 + length vs + 0) (meaning.with_words (3 + length vs) 0 z.state)) }

  -- there is room for it
  module _ (room : 3 + length vs ≤ left y.arena) (fits : has_room setting.limit (z.state.heap + z.state.stack + (3 + length vs) + 0) ≡ true) (cost : ℕ) where
    abbrev z2 : FlatState
    z2 = record z { state = meaning_made setting things class class_word vs ws is class_there.of_value are room (3 + length vs) (3 + length vs + 0) }

    abbrev y2 : MidState
    y2 = state_made setting things class class_word vs ws is class_there.of_value are room cost

    abbrev w2 : World
    w2 = world_behind w y.arena (places_made setting things class class_word vs ws is class_there.of_value are room)

    kept : WorldKept setting w w2 z z2 y y2
    kept = world_kept_behind setting placed things (made_behind setting things class class_word vs ws is class_there.of_value are room (3 + length vs) (3 + length vs + 0) cost fits)

    kept_paid : WorldKept setting w w2 (flat_charged 1 z) z2 y y2
    kept_paid = record { later = kept.later; things = kept.things; stack = kept.stack; end = kept.end; more_exits = kept.more_exits; same_size = kept.same_size }

    around_made : Around setting cost z z2 y y2
    around_made = record {
      control = control_behind setting placed things (made_behind setting things class class_word vs ws is class_there.of_value are room (3 + length vs) (3 + length vs + 0) cost fits);
      blocks = (made_behind setting things class class_word vs ws is class_there.of_value are room (3 + length vs) (3 + length vs + 0) cost fits).blocks;
      charged = made_charged setting things class class_word vs ws is class_there.of_value are room (3 + length vs + 0) cost;
      paid = omega arith;
    }

    around_paid : Around setting cost (flat_charged 1 z) z2 y y2
    around_paid = record { control = around_made.control; blocks = around_made.blocks; charged = around_made.charged; paid = omega arith }

    begins2 : CallBegins setting rs valid raise_words w2 around z2 y2
    begins2 = point_begins setting kept around_made begins

    site2 : SiteStored setting around y2
    site2 = (site.0, word_made_before setting things class class_word vs ws is class_there.of_value are room site_address (omega arith) ∙ site.1, site.2)

    condition : is_condition (tables setting.program) z2.state (object (length z.state.store)) ≡ true
    condition =
        ap (λ o. is_below (tables setting.program) (class_of_object o) serious_condition_class) (slice_get-behind z.state.store (instance class (map (λ v. Some v) vs) nil))
        ∙ is_class setting things class class_word vs ws is class_there.of_value are room

    -- and it is signalled
    raised :
        (regs : Registers) → HoldAll (3 ∷ 4 ∷ []) regs ((y.arena.heap_to + 2) ∷ nil_word ∷ []) → 3 < length regs → cost + 66 + raise_credit + unit_cost ≤ y.cost + unit_cost * (3 + length vs) + credit
        → Comes (exec cx (code_of (returning setting.at 3 (raise_routine setting.at) (3 ∷ 4 ∷ []))) regs y2)
    raised regs held low few =
        subst (λ p. CallEnds setting credit (suc t + making_spare) rs valid w around (flat_charged 1 z) y p (exec cx (code_of (returning setting.at 3 (raise_routine setting.at) (3 ∷ 4 ∷ []))) regs y2))
        (sym (meant ∙ ap (with_size (3 + length vs)) fits))
        (call_behind setting kept_paid around_paid {c2 = 66 + raise_credit} (omega (arith, few)) refl (omega arith)
        (returning_comes setting setting.at cx 3 (raise_routine setting.at) (3 ∷ 4 ∷ []) ((y.arena.heap_to + 2) ∷ nil_word ∷ []) regs y2 (raise_used setting placed).there held low (omega arith) begins2.things
        (raises rs valid w2 z2 (charged 52 y2) (object (length z.state.store)) nil (y.arena.heap_to + 2) nil_word condition
        (pointer_is setting things class class_word vs ws is class_there.of_value are room (3 + length vs) (3 + length vs + 0)) refl site2 (begins_charged setting 52 begins2))))

  -- there is no room in the code
  wanting : (regs : Registers) (x : MidState) → left y.arena < 3 + length vs → has_room setting.limit (z.state.heap + z.state.stack + (3 + length vs) + 0) ≡ true → x.printed ≡ y.printed → x.cost ≤ y.cost + unit_cost
      → Comes (ends (no_room (3 + length vs) (left y.arena)) regs x)
  wanting regs x wants fits same cheap =
      stopped (record {
        because = (limited setting.limit fits begins.room things.within_limit, wants);
        printed = subst (λ (p : List ℕ). IsPrefix p r.state.state.printed) (sym (same ∙ things.represents.printed)) (grown_later (signal_later setting k class vs around z)).printed;
        paid = λ ended. let up = charged_at_least fits in omega (arith, cheap, up);
      })
    where
      limited : (l : Limit) → has_room l (z.state.heap + z.state.stack + (3 + length vs) + 0) ≡ true → RoomFor l (raise_words + words_for_handler * length around.handlers) z.state y → WithinLimit l z.state
          → RoomEnded setting l r.outcome
      limited unlimited h room within = tt
      limited (words m) h room within =
          let low : z.state.heap + z.state.stack + (3 + length vs) + 0 ≤ m = grind (arith, nat_tests) in
          absurd (omega (arith, low, room, wants))

  -- there is none in the meaning
  full_so : (q : MidOutcome) → Grown y q.state → has_room setting.limit (z.state.heap + z.state.stack + (3 + length vs) + 0) ≡ false → Comes q
  full_so q grown none =
      subst (λ p. CallEnds setting credit (suc t + making_spare) rs valid w around (flat_charged 1 z) y p q) (sym (meant ∙ ap (with_size (3 + length vs)) none))
      (full_there (record {
        asked = 3 + length vs + 0;
        left_then = room_left setting.limit (z.state.heap + z.state.stack);
        outcome = refl;
        printed = record { rest = grown.printed.0; is = ap (λ l. l ++ grown.printed.0) (sym things.represents.printed) ∙ sym grown.printed.1 };
      }))

  -- **what the code comes to that requests and stores the words of the condition, and signals it**
  pub condition_comes :
      (q : MidOutcome) → Grown y q.state
      → ((room : 3 + length vs ≤ left y.arena) → (regs : Registers) × (cost : ℕ) × HoldAll (3 ∷ 4 ∷ []) regs ((y.arena.heap_to + 2) ∷ nil_word ∷ []) × (3 < length regs)
      × (cost + 66 + raise_credit + unit_cost ≤ y.cost + unit_cost * (3 + length vs) + credit)
      × (q ≡ exec cx (code_of (returning setting.at 3 (raise_routine setting.at) (3 ∷ 4 ∷ []))) regs (state_made setting things class class_word vs ws is class_there.of_value are room cost)))
      → (left y.arena < 3 + length vs → (regs : Registers) × (x : MidState) × (q ≡ ends (no_room (3 + length vs) (left y.arena)) regs x) × (x.printed ≡ y.printed) × (x.cost ≤ y.cost + unit_cost))
      → Comes q
  condition_comes q grown here none = by (has_room setting.limit (z.state.heap + z.state.stack + (3 + length vs) + 0)) refl (room_for (3 + length vs) y.arena)
    where
      by : (b : Bool) → has_room setting.limit (z.state.heap + z.state.stack + (3 + length vs) + 0) ≡ b → Room (3 + length vs) y.arena → Comes q
      by false e any = full_so q grown e
      by true e (is_left room) = let h = here room in subst (λ p. Comes p) (sym h.5) (raised room e h.1 h.0 h.2 h.3 h.4)
      by true e (is_wanting wants) = let h = none wants in subst (λ p. Comes p) (sym h.2) (wanting h.0 h.1 wants e h.3 h.4)
