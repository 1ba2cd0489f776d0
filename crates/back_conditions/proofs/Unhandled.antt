-- **A condition for which there is no handler**: the program ends at the site, by a transfer to its end.
use Rattle.std.proofs.Common.{◌≡◌, ℕ, suc, ◌+◌, ◌*◌, ◌<◌, ◌≤◌, Bool, true, false, List, [], ◌∷◌, Option, Some, None, refl, sym, ap, ◌∙◌, subst, arith}
use Rattle.std.specs.Prelude.{slice_get, ◌==◌, ◌^◌, ◌-◌}
use Rattle.std.proofs.lemmas.Bool.{eq-eqb}
use Rattle.std.proofs.lemmas.Bool.Decides.{nat_tests}
use Rattle.base.specs.declared.place.Place.{Place}
use Rattle.lang_meaning.specs.Prefixes.{IsPrefix}
use Rattle.lang_meaning.specs.State.{DynamicContext, at_site}
use Rattle.lang_meaning.specs.State as meaning
use Rattle.lang_meaning.specs.Values.{Value}
use Rattle.flat_language.specs.FlatNodes.{tables}
use Rattle.flat_language.specs.FlatSignals.{signal_under, marked}
use Rattle.flat_language.specs.FlatState.{FlatState, FlatEvaluated, exit_made}
use Rattle.flat_language.specs.FlatState.{charged as flat_charged}
use Rattle.flat_language.specs.FlatState.{leaves as flat_leaves}
use Rattle.flat_laws.specs.FlatLater.{FlatLater}
use Rattle.flat_laws.proofs.Applied.{signals_under}
use Rattle.flat_laws.proofs.Later.{later_kept}
use Rattle.mid_code.specs.declared.operation.Comparison.TheVariants.{Equal}
use Rattle.mid_code.specs.declared.operation.Counted.TheVariants.{Turn}
use Rattle.mid_code.specs.Arena.{left, is_lent}
use Rattle.mid_arena.specs.Places.{of_other}
use Rattle.mid_arena.proofs.Memory.{in_spot_lent}
use Rattle.mid_code.specs.Meaning.{Context, exec, leaves}
use Rattle.mid_code.specs.MidCode.{code_of}
use Rattle.mid_code.specs.State.{Registers, exhausted, ends, charged, MidState, MidOutcome}
use Rattle.mid_arena.proofs.Running.{and_then, and_ends, constant_falls, load_falls, store_falls, address_above}
use Rattle.back_lowering.specs.ControlWords.{serials_address, handlers_address, landing_address, site_address, end_address}
use Rattle.back_lowering.specs.RoutineCodes.{raise_code, unhandled_code, handler_applied, returning}
use Rattle.back_lowering.specs.Program.{procedure_with, framed, raise_frame}
use Rattle.back_lowering.specs.Routines.{transfer_routine, raise_routine}
use Rattle.back_lowering.specs.Steps.{constant, load, test_of, if_equal}
use Rattle.back_relation.specs.Setting.{Setting, control_spot}
use Rattle.back_relation.specs.Placed.{IsPlaced}
use Rattle.back_relation.specs.Worlds.{World, LandsIn, Standing}
use Rattle.back_relation.specs.StackWords.{HandlersAt}
use Rattle.back_relation.specs.Around.{CallBegins, SiteStored}
use Rattle.back_relation.specs.Ends.{WorldKept, Around, CallEnds, stopped}
use Rattle.back_relation.specs.Forms.{context_at, code_at}
use Rattle.back_relation.specs.RoutineClaims.{WordIs}
use Rattle.back_relation.proofs.Growth.{grown_later, same_prefix}
use Rattle.back_relation.proofs.Parts.{IsLast}
use Rattle.back_relation.proofs.Windows.{draw_in}
use Rattle.back_relation.proofs.Worlds.{word_later}
use Rattle.back_relation.proofs.Standing.{world_behind, world_kept_behind, control_behind}
use Rattle.back_exits.specs.Within.{transfer_words}
use Rattle.back_exits.proofs.Frames.{memory_holds}
use Rattle.back_exits.proofs.Entries.{UsedAt, routine_used, routine_registers, laid_frame, routine_enters}
use Rattle.back_exits.proofs.Bodies.{world_of, body_begins, body_leaves, laid_site, of_landing}
use Rattle.back_exits.proofs.Returning.{HoldAll, call_behind, first_alone}
use Rattle.back_exits.proofs.Points.{Moved, point_begins, moved_stored, stored_state, word_stored, store_lent}
use Rattle.back_exits.proofs.LeavingRoutine.{tasks_below, transfer_used, returning_last, transfer_last}
use Rattle.back_conditions.specs.Law.{LawOfUnhandled}
use Rattle.back_conditions.proofs.Marking.{ConditionIs, condition_of, z_marked, marked_is, marked_state, marked_behind, mark_runs, count, control_kept}
use Rattle.back_conditions.proofs.Drawing.{draw_ends, drawn_world, drawn_state, drawn_kept, drawn_around, drawn_site}

-- a site is a landing of the end of the program, which no form made
lands_at_end : (w : World) (place : Place) → slice_get w.exit_forms 0 ≡ Some None → LandsIn (slice_get w.exit_forms 0) (at_site place)
lands_at_end w place e = subst (λ o. LandsIn o (at_site place)) (sym e) tt

no_cell : (w : World) (y : MidState) (cell : ℕ) (hs : List Value) → hs ≡ [] → HandlersAt w y cell hs → cell ≡ 0
no_cell w y cell [] e h = h
no_cell w y cell (v ∷ hs) e h = absurd (cc e)

module _ (setting : Setting) (placed : IsPlaced setting) (k t : ℕ) (rs valid : List Standing) (w : World) (around : DynamicContext) (z : FlatState) (y : MidState)
    (begins : CallBegins setting rs valid transfer_words w around z y) (site : SiteStored setting around y) (none : around.handlers ≡ []) (c mark : Value) (c_word mark_word : ℕ)
    (condition : ConditionIs (tables setting.program) z.state c) (of_condition : WordIs setting w c_word c) (of_mark : WordIs setting w mark_word mark) where
  open begins use {things, around_stands}

  abbrev cx : Context
  cx = code_at setting k t

  abbrev z1 : FlatState
  z1 = record z { state = z_marked setting things c mark c_word mark_word condition of_condition of_mark }

  abbrev r : FlatEvaluated
  r = flat_leaves 0 c (at_site around.site) (exit_made z1)

  -- where the mark is set
  abbrev y1 : MidState
  y1 = marked_state setting things c mark c_word mark_word condition of_condition of_mark (y.cost + 58)

  abbrev w1 : World
  w1 = world_behind w y.arena w.places

  kept1 : WorldKept setting w w1 z z1 y y1
  kept1 = world_kept_behind setting placed things (marked_behind setting things c mark c_word mark_word condition of_condition of_mark (y.cost + 58))

  around1 : Around setting 58 z z1 y y1
  around1 = record {
    control = control_behind setting placed things (marked_behind setting things c mark c_word mark_word condition of_condition of_mark (y.cost + 58));
    blocks = refl;
    charged = let size = kept1.same_size in omega (arith, size);
    paid = omega arith;
  }

  begins1 : CallBegins setting rs valid transfer_words w1 around z1 y1
  begins1 = point_begins setting kept1 around1 begins

  site1 : SiteStored setting around y1
  site1 = (
    site.0,
    control_kept setting things c mark c_word mark_word condition of_condition of_mark site_address (omega arith) (omega arith) ∙ site.1,
    site.2,
  )

  -- no handler is around
  cell_none : begins1.around_stands.handlers_cell ≡ 0
  cell_none = no_cell w1 y1 begins1.around_stands.handlers_cell around.handlers none begins1.around_stands.handlers

  abbrev drawn : ℕ
  drawn = begins1.things.serials.0

  abbrev rest : Registers
  rest = None ∷ None ∷ None ∷ None ∷ None ∷ None ∷ None ∷ None ∷ None ∷ None ∷ None ∷ None ∷ None ∷ []

  -- the registers where register 5 has a word
  abbrev regs_with : Option ℕ → Registers
  regs_with o =
      Some c_word ∷ Some mark_word ∷ Some (4 * count setting things c mark c_word mark_word condition of_condition of_mark + c_word) ∷ Some 0 ∷ Some begins1.around_stands.handlers_cell
      ∷ o ∷ None ∷ None ∷ None ∷ None ∷ None ∷ None ∷ None ∷ None ∷ None ∷ None ∷ None ∷ None ∷ []

  abbrev y_choice : MidState
  y_choice = record y1 { cost = y.cost + 58 + 6 + 8 + 12 }

  abbrev registers_first : Registers
  registers_first = Some c_word ∷ Some mark_word ∷ None ∷ None ∷ None ∷ rest

  -- up to the choice
  runs : {q : MidOutcome} → IsLast (exec cx (code_of (unhandled_code setting.at)) (regs_with None) y_choice).end → exec cx (code_of (unhandled_code setting.at)) (regs_with None) y_choice ≡ q
      → exec cx (code_of (raise_code setting.at)) registers_first y ≡ q
  unfolding raise_code
  runs last same =
      mark_runs setting things c mark c_word mark_word condition of_condition of_mark cx None None (None ∷ rest)
      (constant 3 0 ∷ load 4 3 handlers_address ∷ if_equal 4 3 (unhandled_code setting.at) (handler_applied setting.at) ∷ [])
      ((and_then constant_falls
      (and_then (load_falls refl (address_above 0 handlers_address handlers_address (omega arith) (omega arith)) begins1.around_stands.handlers_word)
      (record {
        same =
            first_alone cx (test_of Equal 4 3) (code_of (unhandled_code setting.at)) (code_of (handler_applied setting.at)) (regs_with None) (record y1 { cost = y.cost + 58 + 6 + 8 }) refl refl
            (eq-eqb begins1.around_stands.handlers_cell 0 cell_none) last
            ∙ same;
      }))).same)

  -- serial numbers have ended
  ends_there : (drawn == 2 ^ 32 - 1) ≡ true → CallEnds setting 310 (suc t + 47) rs valid w around z y r (exec cx (code_of (raise_code setting.at)) registers_first y)
  ends_there e =
      subst (λ q. CallEnds setting 310 (suc t + 47) rs valid w around z y r q) (sym (runs (subst (λ (q : MidOutcome). IsLast q.end) (sym ended) tt) ended))
      (stopped (record {
        because = many drawn z.state.exits begins1.things.serials.2 e;
        printed = subst (λ (p : List ℕ). IsPrefix p z.state.printed) (sym things.represents.printed) (same_prefix z.state.printed);
        paid = λ ended. omega arith;
      }))
    where
      ended : exec cx (code_of (unhandled_code setting.at)) (regs_with None) y_choice ≡ ends exhausted (regs_with None) (charged 26 y_choice)
      ended = (and_ends tt (record { same = draw_ends cx (regs_with None) y_choice 5 3 0 serials_address drawn refl (omega arith) begins1.things.serials.1 e })).same

      many : (n m : ℕ) → n + 1 ≡ m → (n == 2 ^ 32 - 1) ≡ true → 2 ^ 32 < m + 1
      many n m same e = grind (arith, nat_tests)

  -- or one is drawn, and the end is transferred to
  module _ (fewer : (drawn == 2 ^ 32 - 1) ≡ false) where
    abbrev cost2 : ℕ
    cost2 = y.cost + 58 + 6 + 8 + 12 + 26

    abbrev z2 : FlatState
    z2 = exit_made z1

    abbrev y2 : MidState
    y2 = drawn_state setting begins1.things cost2 drawn begins1.things.serials.1 begins1.things.serials.2 begins1.things.serials.3 fewer

    abbrev w2 : World
    w2 = drawn_world setting begins1.things cost2 drawn begins1.things.serials.1 begins1.things.serials.2 begins1.things.serials.3 fewer

    kept2 : WorldKept setting w1 w2 z1 z2 y1 y2
    kept2 = drawn_kept setting begins1.things cost2 drawn begins1.things.serials.1 begins1.things.serials.2 begins1.things.serials.3 fewer

    around2 : Around setting cost2 z1 z2 y1 y2
    around2 = drawn_around setting begins1.things cost2 drawn begins1.things.serials.1 begins1.things.serials.2 begins1.things.serials.3 fewer

    begins2 : CallBegins setting rs valid transfer_words w2 around z2 y2
    begins2 = point_begins setting kept2 around2 begins1

    site2 : SiteStored setting around y2
    site2 = drawn_site setting begins1.things cost2 drawn begins1.things.serials.1 begins1.things.serials.2 begins1.things.serials.3 fewer around site1

    abbrev y3 : MidState
    y3 = stored_state setting placed begins2.things landing_address of_landing site2.0 0 (cost2 + 8 + 8 + 8)

    moved : Moved setting 0 w2 (world_of setting placed w2 y2) z2 y2 y3
    moved = moved_stored setting placed begins2.things landing_address of_landing site2.0 0 (cost2 + 8 + 8 + 8)

    abbrev end_at : ℕ
    end_at = begins2.around_stands.end_record.address

    unhandled_runs :
        exec cx (code_of (unhandled_code setting.at)) (regs_with None) y_choice
        ≡ exec cx (code_of (returning setting.at 6 (transfer_routine setting.at) (5 ∷ 0 ∷ []))) (regs_with (Some end_at)) y3
    unhandled_runs =
        (and_then (draw_in cx [] 0 refl (regs_with None) y_choice 5 5 3 3 0 serials_address drawn refl refl refl (omega arith) begins1.things.serials.1 fewer serial_lent)
        (and_then (load_falls refl (address_above 0 site_address site_address (omega arith) (omega arith)) site2.1)
        (and_then (store_falls refl refl (address_above 0 landing_address landing_address (omega arith) (omega arith)) (store_lent setting placed begins2.things landing_address of_landing))
        (and_then (load_falls refl (address_above 0 end_address end_address (omega arith) (omega arith)) (moved.world.end end_at begins2.around_stands.end_word))
        (record { same = refl }))))).same
      where
        serial_lent : is_lent y1.arena serials_address ≡ true
        serial_lent = in_spot_lent serials_address (begins1.things.represents.spots (of_other 1) (control_spot setting) begins1.things.control) refl (omega arith) (omega arith)

    held : HoldAll (5 ∷ 0 ∷ []) (regs_with (Some end_at)) (end_at ∷ c_word ∷ [])
    held = (refl, (refl, tt))

    returned : CallEnds setting 176 (t + 48) rs valid (world_of setting placed w2 y2) around (flat_charged 0 z2) y3 (flat_leaves 0 c (at_site around.site) (flat_charged 0 z2))
        (exec cx (code_of (returning setting.at 6 (transfer_routine setting.at) (5 ∷ 0 ∷ []))) (regs_with (Some end_at)) y3)
    returned =
        transfer_last setting placed k t 6 5 0 c_word (regs_with (Some end_at)) 0 c (at_site around.site) begins2.around_stands.end_record site2.0 (point_begins setting moved.world moved.around begins2) held
        (omega arith) begins2.around_stands.end_valid (word_later moved.world.later c c_word (word_later kept2.later c c_word (word_later kept1.later c c_word of_condition)))
        (word_stored setting placed begins2.things landing_address of_landing site2.0 0 (cost2 + 8 + 8 + 8)) site2.2 (lands_at_end (world_of setting placed w2 y2) around.site (point_begins setting moved.world moved.around begins2).around_stands.end_form)

    units_same : flat_leaves 0 c (at_site around.site) (flat_charged 0 z2) ≡ r
    units_same = let same : z2.state.units + 0 ≡ z2.state.units = omega arith in ap (λ u. flat_leaves 0 c (at_site around.site) (record z2 { state = record z2.state { units = u } })) same

    transfers : CallEnds setting 310 (suc t + 47) rs valid w around z y r (exec cx (code_of (raise_code setting.at)) registers_first y)
    transfers =
        subst (λ q. CallEnds setting 310 (suc t + 47) rs valid w around z y r q)
        (sym (runs (subst (λ (q : MidOutcome). IsLast q.end) (sym unhandled_runs)
        (returning_last setting k t 6 (transfer_routine setting.at) (5 ∷ 0 ∷ []) (end_at ∷ c_word ∷ []) (regs_with (Some end_at)) y3 (transfer_used setting placed).there held (omega arith))) unhandled_runs))
        (call_behind setting kept1 around1 {c2 = 252} (omega arith) refl (omega arith)
        (call_behind setting kept2 around2 {c2 = 200} {c = 252} (omega arith) {t = t + 48} {t' = t + 48} refl (omega arith)
        (subst (λ p. CallEnds setting 200 (t + 48) rs valid w2 around z2 y2 p (exec cx (code_of (returning setting.at 6 (transfer_routine setting.at) (5 ∷ 0 ∷ []))) (regs_with (Some end_at)) y3)) units_same
        (call_behind setting moved.world moved.around {c2 = 176} {c = 200} (omega arith) {t = t + 48} {t' = t + 48} refl (omega arith) returned))))

  body_comes : CallEnds setting 310 (suc t + 47) rs valid w around z y r (exec cx (code_of (raise_code setting.at)) registers_first y)
  body_comes = by (drawn == 2 ^ 32 - 1) refl
    where
      by : (b : Bool) → (drawn == 2 ^ 32 - 1) ≡ b → CallEnds setting 310 (suc t + 47) rs valid w around z y r (exec cx (code_of (raise_code setting.at)) registers_first y)
      by true e = ends_there e
      by false e = transfers e

-- what is meant where there is no handler
meant : (setting : Setting) (k : ℕ) (hs : List Value) (c mark : Value) (around : DynamicContext) (z : FlatState) (z' : meaning.State) → hs ≡ [] → (marked c mark z).state ≡ z'
    → signal_under (context_at setting k) hs c mark around z ≡ flat_leaves 0 c (at_site around.site) (exit_made (record z { state = z' }))
meant setting k [] c mark around z z' e same = ap (λ (s : meaning.State). flat_leaves 0 c (at_site around.site) (exit_made (record z { state = s }))) same
meant setting k (h ∷ hs) c mark around z z' e same = absurd (cc e)

pub unhandled_law : LawOfUnhandled
unfolding raise_code
unhandled_law setting k turns rs valid w around z y placed none c mark c_word mark_word condition of_condition of_mark site begins =
    routine_enters setting k (raise_routine setting.at) raise_frame 2 (raise_code setting.at) used (c_word ∷ mark_word ∷ []) refl y turns begins.things.represents.printed
    (grown_later (signals_under {R = FlatLater} {k = later_kept} (context_at setting k) (tasks_below setting k) around.handlers c mark around z).grows)
    (let all = memory_holds setting begins.things in omega (arith, all)) begins.room begins.things.within_limit (omega arith) (omega arith) by
  where
    used : UsedAt setting.procedures (raise_routine setting.at) (framed raise_frame (procedure_with Turn 2 (raise_code setting.at)))
    used = routine_used setting placed 4 (framed raise_frame (procedure_with Turn 2 (raise_code setting.at))) refl

    is : ConditionIs (tables setting.program) z.state c
    is = condition_of (tables setting.program) z.state begins.things.represents.built_in c condition

    by : (t : ℕ) → turns ≡ suc t → used.frame ≤ left y.arena
        → CallEnds setting 344 (turns + 47) rs valid w around z y (signal_under (context_at setting k) around.handlers c mark around z)
        (leaves y.arena.blocks (exec (code_at setting k t) (code_of (raise_code setting.at)) (routine_registers setting 2 (raise_code setting.at) (c_word ∷ mark_word ∷ [])) (laid_frame setting used.frame 2 y)))
    by t same room =
        subst (λ n. CallEnds setting 344 (n + 47) rs valid w around z y (signal_under (context_at setting k) around.handlers c mark around z)
        (leaves y.arena.blocks (exec (code_at setting k t) (code_of (raise_code setting.at)) (routine_registers setting 2 (raise_code setting.at) (c_word ∷ mark_word ∷ [])) (laid_frame setting used.frame 2 y)))) (sym same)
        (body_leaves setting placed begins.things used.frame 2 room (omega arith)
        (subst
        (λ p. CallEnds setting 310 (suc t + 47) rs valid (world_of setting placed w y) around z (laid_frame setting used.frame 2 y) p
        (exec (code_at setting k t) (code_of (raise_code setting.at)) (routine_registers setting 2 (raise_code setting.at) (c_word ∷ mark_word ∷ [])) (laid_frame setting used.frame 2 y)))
        (sym (meant setting k around.handlers c mark around z (z_marked setting inside.things c mark c_word mark_word is of_condition of_mark) none (marked_is setting inside.things c mark c_word mark_word is of_condition of_mark)))
        (body_comes setting placed k t rs valid (world_of setting placed w y) around z (laid_frame setting used.frame 2 y) inside (laid_site setting placed begins.things used.frame 2 room around site) none c mark c_word mark_word is
        of_condition of_mark)))
      where
        inside : CallBegins setting rs valid transfer_words (world_of setting placed w y) around z (laid_frame setting used.frame 2 y)
        inside = body_begins setting placed begins.things used.frame 2 room transfer_words (let few = used.fewer in omega (arith, few)) begins
