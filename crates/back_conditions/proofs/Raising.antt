-- **A condition is raised**, whatever handlers are around: by induction on the handlers.
use Rattle.std.proofs.Common.{◌≡◌, ℕ, suc, ◌+◌, ◌*◌, ◌<◌, ◌≤◌, List, [], ◌∷◌, length, Option, Some, None, refl, sym, ap, ◌∙◌, subst, arith}
use Rattle.std.proofs.lemmas.Bool.{ne_eqb}
use Rattle.lang_meaning.specs.Objects.{control_error_class}
use Rattle.lang_meaning.specs.State.{DynamicContext, signal_exit, Limit, words, unlimited}
use Rattle.lang_meaning.specs.State as meaning
use Rattle.lang_meaning.specs.Values.{Value, nil}
use Rattle.flat_language.specs.FlatNodes.{tables}
use Rattle.flat_language.specs.FlatSignals.{signal, signal_under, apply_value, new_condition, marked}
use Rattle.flat_language.specs.FlatState.{FlatState, FlatEvaluated, go_on, caught, exit_made}
use Rattle.flat_language.specs.FlatState.{charged as flat_charged}
use Rattle.flat_laws.specs.FlatLater.{FlatLater}
use Rattle.flat_laws.proofs.Applied.{signals_under}
use Rattle.flat_laws.proofs.Later.{later_kept}
use Rattle.mid_code.specs.declared.operation.Comparison.TheVariants.{Equal}
use Rattle.mid_code.specs.declared.operation.Counted.TheVariants.{Turn}
use Rattle.mid_code.specs.Arena.{left}
use Rattle.mid_code.specs.Meaning.{Context, exec, leaves}
use Rattle.mid_code.specs.MidCode.{no_step, return_word, code_of}
use Rattle.mid_code.specs.State.{Registers, register, End, falls, returns, cuts, no_room, no_level, no_turn, halts, unhandled, exhausted, stuck, ends, MidState, MidOutcome, Next, with_some}
use Rattle.mid_code.specs.State.{go_on as mid_go_on}
use Rattle.mid_code.specs.State.{charged as mid_charged}
use Rattle.mid_arena.proofs.Running.{and_then, and_ends, return_ends, constant_falls, load_falls, address_above}
use Rattle.back_lowering.specs.ControlWords.{handlers_address, site_address}
use Rattle.back_lowering.specs.Program.{procedure_with, framed, raise_frame}
use Rattle.back_lowering.specs.RoutineCodes.{raise_code, unhandled_code, handler_applied}
use Rattle.back_lowering.specs.Routines.{raise_routine}
use Rattle.back_lowering.specs.Steps.{Steps, constant, load, if_equal, test_of}
use Rattle.back_relation.specs.Setting.{Setting}
use Rattle.back_relation.specs.Placed.{IsPlaced}
use Rattle.back_relation.specs.Room.{words_for_handler, applying_words}
use Rattle.back_relation.specs.Worlds.{World, Standing}
use Rattle.back_relation.specs.StackWords.{HandlersAt}
use Rattle.back_relation.specs.Things.{Things}
use Rattle.back_relation.specs.Around.{RoomFor, CallBegins, SiteStored}
use Rattle.back_relation.specs.Ends.{WorldKept, Around, CallEnds}
use Rattle.back_relation.specs.Forms.{context_at, code_at}
use Rattle.back_relation.specs.RoutineClaims.{WordIs}
use Rattle.back_relation.proofs.Growth.{grown_later}
use Rattle.back_relation.proofs.Parts.{IsLast, go_on_falls, go_on_last, step_then}
use Rattle.back_relation.proofs.Worlds.{word_later}
use Rattle.back_relation.proofs.Standing.{world_behind, world_kept_behind, control_behind}
use Rattle.back_exits.proofs.Bodies.{world_of, body_begins, body_leaves, laid_site}
use Rattle.back_exits.proofs.Entries.{UsedAt, routine_used, routine_registers, laid_frame, routine_enters}
use Rattle.back_exits.proofs.Frames.{memory_holds}
use Rattle.back_exits.proofs.LeavingRoutine.{tasks_below}
use Rattle.back_exits.proofs.Points.{point_begins}
use Rattle.back_exits.proofs.Returning.{call_behind, second_alone}
use Rattle.back_exits.proofs.Within.{call_less, begins_less}
use Rattle.back_conditions.specs.Within.{RaisesWithin, raise_credit, unhandled_words}
use Rattle.back_conditions.proofs.Combined.{errors_law}
use Rattle.back_conditions.proofs.Marking.{ConditionIs, condition_of, z_marked, marked_is, marked_state, marked_behind, mark_runs, count, control_kept}
use Rattle.back_conditions.proofs.Unhandled.{unhandled_law}
use Rattle.back_conditions.specs.Handled.{FunctionsDo, FailsPaid}
use Rattle.back_conditions.specs.HandledLaw.{UnderFewer, LawOfRaising, LawOfHandledErrors}
use Rattle.back_conditions.proofs.Inner.{meant_inside}
use Rattle.back_conditions.proofs.Outer.{outer_ends, whole}
use Rattle.back_conditions.proofs.Paid.{fails_paid}
use Rattle.back_conditions.proofs.Wrong.{wrong_law}

-- ---- code that ends by a return

return_last : (c : Context) (g : Registers) (x : MidState) → IsLast (exec c (code_of (return_word 6 ∷ [])) g x).end
unfolding exec with_some
return_last c g x = by (register 6 g) refl
  where
    by : (o : Option ℕ) → register 6 g ≡ o → IsLast (exec c (code_of (return_word 6 ∷ [])) g x).end
    by (Some w) e = subst (λ (q : MidOutcome). IsLast q.end) (sym (and_ends {c = c} {s = return_word 6} {code = no_step} {e = returns w} {rs = g} {rs' = g} {z = x} {z' = mid_charged 14 x} tt (return_ends e)).same) tt
    by None e =
        subst (λ (q : MidOutcome). IsLast q.end)
        (sym (ap (λ o. mid_go_on (with_some o (λ w. ends (returns w)) g (mid_charged 14 x)) (λ rs y. exec c no_step rs y)) e ∙ go_on_last stuck (ends stuck g (mid_charged 14 x)) (λ rs y. exec c no_step rs y) refl tt)) tt

last_then : (q : MidOutcome) (next : Next) → ((g : Registers) (x : MidState) → IsLast (next g x).end) → IsLast (mid_go_on q next).end
last_then q next h = by q.end refl
  where
    other : (e : End) → q.end ≡ e → IsLast e → IsLast (mid_go_on q next).end
    other e same l = subst (λ (p : MidOutcome). IsLast p.end) (sym (go_on_last e q next same l)) (subst (λ x. IsLast x) (sym same) l)

    by : (e : End) → q.end ≡ e → IsLast (mid_go_on q next).end
    by falls same = subst (λ (p : MidOutcome). IsLast p.end) (sym (go_on_falls q next same)) (h q.registers q.state)
    by (returns w) same = other (returns w) same tt
    by (cuts n w) same = other (cuts n w) same tt
    by (no_room a b) same = other (no_room a b) same tt
    by no_level same = other no_level same tt
    by no_turn same = other no_turn same tt
    by (halts w) same = other (halts w) same tt
    by (unhandled a b d) same = other (unhandled a b d) same tt
    by exhausted same = other exhausted same tt
    by stuck same = other stuck same tt

-- ---- what is meant

-- the handlers outside, inside the exit of the signal
abbrev inner : DynamicContext → FlatState → Value → Value → List Value → DynamicContext
inner around z c mark hs = record around { exits = record { number = z.state.exits; kind = signal_exit c mark } ∷ around.exits; handlers = hs }

meant :
    (setting : Setting) (k : ℕ) (hs0 : List Value) (h : Value) (hs : List Value) (c mark : Value) (around : DynamicContext) (z : FlatState) (z' : meaning.State) → hs0 ≡ h ∷ hs → (marked c mark z).state ≡ z'
    → signal_under (context_at setting k) hs0 c mark around z
    ≡ caught z.state.exits (meant_inside (context_at setting k) h c (inner around z c mark hs) (flat_charged 1 (exit_made (record z { state = z' }))))
meant setting k hs0 h hs c mark around z z' same is =
    ap (λ l. signal_under (context_at setting k) l c mark around z) same
    ∙ ap
    (λ (s : meaning.State). caught z.state.exits
    (go_on
    (apply_value (context_at setting k) (λ class slots inside y. new_condition (context_at setting k) class slots y (λ e after. signal_under (context_at setting k) hs e nil inside after)) h (c ∷ [])
    (inner around z c mark hs) (flat_charged 1 (exit_made (record z { state = s }))))
    (λ v after. signal (context_at setting k) control_error_class [] (inner around z c mark hs) after)))
    is
    ∙ ap (λ p. caught z.state.exits (go_on p (λ v after. signal (context_at setting k) control_error_class [] (inner around z c mark hs) after)))
    (wrong_law (context_at setting k) (λ class slots inside y. new_condition (context_at setting k) class slots y (λ e after. signal_under (context_at setting k) hs e nil inside after)) (signal (context_at setting k)) h (c ∷ [])
    (inner around z c mark hs) (flat_charged 1 (exit_made (record z { state = z' }))) (λ class slots y. refl))

-- ---- the body of the routine

module _ (setting : Setting) (placed : IsPlaced setting) (k t : ℕ) (rs valid : List Standing) (w : World) (around : DynamicContext) (z : FlatState) (y : MidState)
    (begins : CallBegins setting rs valid 41 w around z y) (site : SiteStored setting around y) (h : Value) (hs : List Value) (is : around.handlers ≡ h ∷ hs) (c mark : Value) (c_word mark_word : ℕ)
    (condition : ConditionIs (tables setting.program) z.state c) (of_condition : WordIs setting w c_word c) (of_mark : WordIs setting w mark_word mark) where
  abbrev things : Things setting w z y
  things = begins.things

  abbrev cx : Context
  cx = code_at setting k t

  abbrev z1 : FlatState
  z1 = record z { state = z_marked setting things c mark c_word mark_word condition of_condition of_mark }

  abbrev y1 : MidState
  y1 = marked_state setting things c mark c_word mark_word condition of_condition of_mark (y.cost + 58 + 6 + 8 + 12 + 8)

  abbrev w1 : World
  w1 = world_behind w y.arena w.places

  kept1 : WorldKept setting w w1 z z1 y y1
  kept1 = world_kept_behind setting placed things (marked_behind setting things c mark c_word mark_word condition of_condition of_mark (y.cost + 58 + 6 + 8 + 12 + 8))

  around1 : Around setting 92 z z1 y y1
  around1 = record {
    control = control_behind setting placed things (marked_behind setting things c mark c_word mark_word condition of_condition of_mark (y.cost + 58 + 6 + 8 + 12 + 8));
    blocks = refl;
    charged = let size = kept1.same_size in omega (arith, size);
    paid = omega arith;
  }

  begins1 : CallBegins setting rs valid 41 w1 around z1 y1
  begins1 = point_begins setting kept1 around1 begins

  abbrev site1 : SiteStored setting around y1
  site1 = (
    site.0,
    control_kept setting things c mark c_word mark_word condition of_condition of_mark site_address (omega arith) (omega arith) ∙ site.1,
    site.2,
  )

  handlers1 : HandlersAt w1 y1 begins1.around_stands.handlers_cell (h ∷ hs)
  handlers1 = subst (λ l. HandlersAt w1 y1 begins1.around_stands.handlers_cell l) is begins1.around_stands.handlers

  room1 : RoomFor setting.limit (applying_words + 3 + 8 + words_for_handler * length hs) z1.state y1
  room1 = by setting.limit begins1.room
    where
      by : (l : Limit) → RoomFor l (41 + words_for_handler * length around.handlers) z1.state y1 → RoomFor l (applying_words + 3 + 8 + words_for_handler * length hs) z1.state y1
      by unlimited e = tt
      by (words m) e = let more : length around.handlers ≡ suc (length hs) = ap length is in omega (arith, e, more)

  abbrev r2 : ℕ
  r2 = 4 * count setting things c mark c_word mark_word condition of_condition of_mark + c_word

  abbrev rest : Registers
  rest = None ∷ None ∷ None ∷ None ∷ None ∷ None ∷ None ∷ None ∷ None ∷ None ∷ None ∷ None ∷ None ∷ []

  abbrev registers_first : Registers
  registers_first = Some c_word ∷ Some mark_word ∷ None ∷ None ∷ None ∷ rest

  abbrev registers_then : Registers
  registers_then = Some c_word ∷ Some mark_word ∷ Some r2 ∷ Some 0 ∷ Some begins1.around_stands.handlers_cell ∷ rest

  abbrev y_choice : MidState
  y_choice = record y1 { cost = y.cost + 58 + 6 + 8 + 12 }

  abbrev applied_steps : Steps
  applied_steps = whole setting placed k t rs valid w1 around z1 y1 begins1 c mark h hs room1 c_word mark_word of_condition of_mark handlers1 site1 r2

  abbrev registers_there : Registers
  registers_there =
      Some c_word ∷ Some mark_word ∷ Some r2 ∷ Some 0 ∷ Some begins1.around_stands.handlers_cell ∷ None ∷ None ∷ Some site.0 ∷ None ∷ None ∷ None ∷ None ∷ None ∷ None ∷ None ∷ None ∷ None ∷ None ∷ []

  handler_runs : exec cx (code_of (handler_applied setting.at)) registers_then y_choice ≡ exec cx (code_of applied_steps) registers_there y1
  handler_runs = (and_then (load_falls refl (address_above 0 site_address site_address (omega arith) (omega arith)) site1.1) (record { same = refl })).same

  applied_last : IsLast (exec cx (code_of applied_steps) registers_there y1).end
  applied_last =
      subst (λ (q : MidOutcome). IsLast q.end) (sym (step_then cx _ (return_word 6 ∷ []) registers_there y1))
      (last_then _ (λ g x. exec cx (code_of (return_word 6 ∷ [])) g x) (λ g x. return_last cx g x))

  runs : exec cx (code_of (raise_code setting.at)) registers_first y ≡ exec cx (code_of applied_steps) registers_there y1
  unfolding raise_code
  runs =
      mark_runs setting things c mark c_word mark_word condition of_condition of_mark cx None None (None ∷ rest)
      (constant 3 0 ∷ load 4 3 handlers_address ∷ if_equal 4 3 (unhandled_code setting.at) (handler_applied setting.at) ∷ [])
      ((and_then constant_falls
      (and_then (load_falls refl (address_above 0 handlers_address handlers_address (omega arith) (omega arith)) begins1.around_stands.handlers_word)
      (record {
        same =
            second_alone cx (test_of Equal 4 3) (code_of (unhandled_code setting.at)) (code_of (handler_applied setting.at)) registers_then (record y1 { cost = y.cost + 58 + 6 + 8 }) refl refl
            (ne_eqb begins1.around_stands.handlers_cell 0 (λ e. let some = handlers1.4 in omega (arith, e, some)))
            (subst (λ (q : MidOutcome). IsLast q.end) (sym handler_runs) applied_last)
            ∙ handler_runs;
      }))).same)

  module _ (applies : FunctionsDo setting k t (inner around z c mark hs)) (fails : FailsPaid setting k t (inner around z c mark hs)) where
    abbrev r : FlatEvaluated
    r = caught z.state.exits (meant_inside (context_at setting k) h c (inner around z c mark hs) (flat_charged 1 (exit_made z1)))

    body_comes : CallEnds setting 312 (suc t + 1) rs valid w around z y r (exec cx (code_of (raise_code setting.at)) registers_first y)
    body_comes =
        subst (λ q. CallEnds setting 312 (suc t + 1) rs valid w around z y r q) (sym runs)
        (call_behind setting kept1 around1 {c2 = 220} (omega arith) refl (omega arith)
        (outer_ends setting placed k t rs valid w1 around z1 y1 begins1 c mark h hs room1 c_word mark_word (word_later kept1.later c c_word of_condition) (word_later kept1.later mark mark_word of_mark) handlers1 site1 r2 applies fails))

-- ---- **by induction on the handlers**

-- fewer turns are left over
fewer_over : (setting : Setting) (k turns credit : ℕ) (around : DynamicContext) → RaisesWithin setting k turns around 1 credit → RaisesWithin setting k turns around 0 credit
fewer_over setting k turns credit around raises t few rs valid w z y c mark c_word mark_word condition of_condition of_mark site begins =
    call_less setting (omega arith) (omega arith) (raises t few rs valid w z y c mark c_word mark_word condition of_condition of_mark site begins)

module _ (setting : Setting) (placed : IsPlaced setting) (k most : ℕ) where
  handled :
      (h : Value) (hs : List Value) (around : DynamicContext) → around.handlers ≡ h ∷ hs → ((within : DynamicContext) → within.handlers ≡ hs → RaisesWithin setting k most within 1 raise_credit) → UnderFewer setting k most around
      → RaisesWithin setting k most around 1 raise_credit
  unfolding raise_code
  handled h hs around is inside_raises fewer turns most_turns rs valid w z y c mark c_word mark_word condition of_condition of_mark site begins =
      routine_enters setting k (raise_routine setting.at) raise_frame 2 (raise_code setting.at) used (c_word ∷ mark_word ∷ []) refl y turns begins.things.represents.printed
      (grown_later (signals_under {R = FlatLater} {k = later_kept} (context_at setting k) (tasks_below setting k) around.handlers c mark around z).grows)
      (let all = memory_holds setting begins.things in omega (arith, all)) begins.room begins.things.within_limit (omega arith) (omega arith) by
    where
      used : UsedAt setting.procedures (raise_routine setting.at) (framed raise_frame (procedure_with Turn 2 (raise_code setting.at)))
      used = routine_used setting placed 4 (framed raise_frame (procedure_with Turn 2 (raise_code setting.at))) refl

      it : ConditionIs (tables setting.program) z.state c
      it = condition_of (tables setting.program) z.state begins.things.represents.built_in c condition

      fewer_handlers : length hs < length around.handlers
      fewer_handlers = let more : length around.handlers ≡ suc (length hs) = ap length is in omega (arith, more)

      by : (t : ℕ) → turns ≡ suc t → used.frame ≤ left y.arena
          → CallEnds setting raise_credit (turns + 1) rs valid w around z y (signal_under (context_at setting k) around.handlers c mark around z)
          (leaves y.arena.blocks (exec (code_at setting k t) (code_of (raise_code setting.at)) (routine_registers setting 2 (raise_code setting.at) (c_word ∷ mark_word ∷ [])) (laid_frame setting used.frame 2 y)))
      by t same room =
          subst (λ n. CallEnds setting raise_credit (n + 1) rs valid w around z y (signal_under (context_at setting k) around.handlers c mark around z)
          (leaves y.arena.blocks (exec (code_at setting k t) (code_of (raise_code setting.at)) (routine_registers setting 2 (raise_code setting.at) (c_word ∷ mark_word ∷ [])) (laid_frame setting used.frame 2 y)))) (sym same)
          (body_leaves setting placed begins.things used.frame 2 room (omega arith)
          (subst
          (λ p. CallEnds setting 312 (suc t + 1) rs valid (world_of setting placed w y) around z (laid_frame setting used.frame 2 y) p
          (exec (code_at setting k t) (code_of (raise_code setting.at)) (routine_registers setting 2 (raise_code setting.at) (c_word ∷ mark_word ∷ [])) (laid_frame setting used.frame 2 y)))
          (sym (meant setting k around.handlers h hs c mark around z (z_marked setting inside.things c mark c_word mark_word it of_condition of_mark) is (marked_is setting inside.things c mark c_word mark_word it of_condition of_mark)))
          (body_comes setting placed k t rs valid (world_of setting placed w y) around z (laid_frame setting used.frame 2 y) inside (laid_site setting placed begins.things used.frame 2 room around site) h hs is c mark c_word mark_word it
          of_condition of_mark (fewer.apply t (omega (arith, same, most_turns)) (inner around z c mark hs) fewer_handlers)
          (fails_paid setting placed k raise_credit (omega arith) (inner around z c mark hs) t
          (λ s few. fewer_over setting k most raise_credit (inner around z c mark hs) (inside_raises (inner around z c mark hs) refl) s (omega (arith, few, same, most_turns)))))))
        where
          inside : CallBegins setting rs valid 41 (world_of setting placed w y) around z (laid_frame setting used.frame 2 y)
          inside = body_begins setting placed begins.things used.frame 2 room 41 (let few = used.fewer in omega (arith, few)) begins

  unhandled_raises : (around : DynamicContext) → around.handlers ≡ [] → RaisesWithin setting k most around 1 raise_credit
  unhandled_raises around is turns few rs valid w z y c mark c_word mark_word condition of_condition of_mark site begins =
      call_less setting (omega arith) (omega arith)
      (unhandled_law setting k turns rs valid w around z y placed is c mark c_word mark_word condition of_condition of_mark site (begins_less setting unhandled_words (omega arith) begins))

  raises : (hs : List Value) (around : DynamicContext) → around.handlers ≡ hs → UnderFewer setting k most around → RaisesWithin setting k most around 1 raise_credit
  raises [] around is fewer = unhandled_raises around is
  raises (h ∷ hs) around is fewer =
      handled h hs around is
      (λ within e. raises hs within e (record {
        apply = λ t low a few. fewer.apply t low a (let more : length around.handlers ≡ suc (length hs) = ap length is in let so : length within.handlers ≡ length hs = ap length e in omega (arith, more, few, so));
      }))
      fewer

pub raising_law : LawOfRaising
raising_law setting k turns around placed fewer = raises setting placed k turns around.handlers around refl fewer

pub handled_errors_law : LawOfHandledErrors
handled_errors_law setting k turns rs valid w around z y placed fewer = errors_law setting k turns rs valid w around z y placed (raises setting placed k turns around.handlers around refl fewer)
