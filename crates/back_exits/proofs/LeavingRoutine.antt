-- The routine that leaves to an exit by its number.
use Rattle.std.proofs.Common.{◌≡◌, ◌⊎◌, inl, inr, ℕ, zero, suc, ◌+◌, ◌<◌, ◌≤◌, List, [], ◌∷◌, length, Some, None, refl, sym, ap, ◌∙◌, subst, arith}
use Rattle.std.specs.Prelude.{slice_get, slice_set}
use Rattle.std.proofs.Math.ListN.{length-set}
use Rattle.mid_code.specs.declared.program.MidProcedure.{MidProcedure}
use Rattle.mid_arena.proofs.Registers.{register_here}
use Rattle.back_relation.proofs.Straight.{world_cost, around_cost}
use Rattle.std.proofs.lemmas.Bool.{eq-eqb}
use Rattle.lang_meaning.specs.State.{DynamicContext, Landing}
use Rattle.lang_meaning.specs.Values.{Value}
use Rattle.lang_meaning.specs.Objects.{control_error_class}
use Rattle.flat_language.specs.FlatSignals.{signal, transfer}
use Rattle.flat_language.specs.FlatState.{FlatState, FlatEvaluated}
use Rattle.flat_language.specs.FlatState.{charged as flat_charged}
use Rattle.flat_language.specs.FlatState.{leaves as flat_leaves}
use Rattle.flat_laws.specs.FlatLater.{FlatLater}
use Rattle.flat_laws.proofs.Applied.{signals, transfers}
use Rattle.flat_laws.proofs.Combined.{Tasks}
use Rattle.flat_laws.proofs.Later.{later_kept}
use Rattle.flat_laws.proofs.Levels.{nothing_below, levels_come}
use Rattle.mid_code.specs.declared.operation.Counted.TheVariants.{Turn}
use Rattle.mid_code.specs.declared.operation.Comparison.TheVariants.{Equal}
use Rattle.mid_code.specs.Arena.{left}
use Rattle.mid_code.specs.Meaning.{Context, exec, leaves}
use Rattle.mid_code.specs.MidCode.{code_of}
use Rattle.mid_code.specs.State.{Registers, falls, ends, charged, MidState, MidOutcome}
use Rattle.mid_arena.proofs.Running.{StepsTo, and_then, constant_falls, load_falls, store_falls, address_above}
use Rattle.back_lowering.specs.ControlWords.{link_address, landing_address}
use Rattle.back_lowering.specs.RoutineCodes.{transfer_code, leave_code, failing_code, returning}
use Rattle.back_lowering.specs.RoutineCodes.{signals as signals_steps}
use Rattle.back_lowering.specs.Program.{procedure_with, framed, passing_frame}
use Rattle.back_lowering.specs.Routines.{transfer_routine, leave_routine, failing_routine}
use Rattle.back_lowering.specs.Steps.{Steps, store, test_of, if_equal}
use Rattle.back_relation.specs.Setting.{Setting}
use Rattle.back_relation.specs.Placed.{IsPlaced}
use Rattle.back_relation.specs.Room.{failing_words}
use Rattle.back_relation.specs.Worlds.{World, LandsIn, Standing, record_of_exit}
use Rattle.back_relation.specs.StackWords.{HasWordAt}
use Rattle.back_relation.specs.Around.{CallBegins, SiteStored}
use Rattle.back_relation.specs.Ends.{LandingIs, CallEnds, landing_cost, few_turns}
use Rattle.back_relation.specs.Forms.{below_at, context_at, code_at}
use Rattle.back_relation.specs.RoutineClaims.{WordIs, LeaveDoes, IsBuiltInCondition}
use Rattle.back_relation.specs.Procedures.{called}
use Rattle.back_relation.proofs.Growth.{grown_later}
use Rattle.back_relation.proofs.Parts.{IsLast}
use Rattle.back_relation.proofs.Worlds.{word_later}
use Rattle.back_exits.proofs.Frames.{memory_holds}
use Rattle.back_exits.specs.Links.{along_links, link_registers, has_number, NumberSought, found, missing, LinksWalked}
use Rattle.back_exits.specs.Searches.{IsLong}
use Rattle.back_exits.specs.Within.{FailsAt, FailsWithin, transfer_words}
use Rattle.back_exits.proofs.Links.{links_law}
use Rattle.back_exits.proofs.Entries.{UsedAt, routine_used, routine_registers, laid_frame, routine_enters}
use Rattle.back_exits.proofs.Transfer.{transfer_does}
use Rattle.back_exits.proofs.Within.{call_less, begins_less, landing_most}
use Rattle.back_exits.proofs.Bodies.{world_of, body_begins, body_leaves, laid_site, of_landing}
use Rattle.back_exits.proofs.Returning.{HoldAll, call_cost, call_behind, first_alone, second_alone, returning_is, returning_comes, returning_leaves, tail_known}
use Rattle.back_exits.proofs.Points.{Moved, point_begins, moved_stored, stored_state, word_stored, store_lent, moved_cost}

-- ---- what is meant only grows

pub tasks_below : (setting : Setting) (k : ℕ) → Tasks FlatLater later_kept (below_at setting k)
tasks_below setting zero = nothing_below {R = FlatLater} {k = later_kept}
tasks_below setting (suc k) = levels_come {R = FlatLater} {k = later_kept} setting.names setting.program setting.limit k

pub signal_later :
    (setting : Setting) (k class : ℕ) (slots : List Value) (around : DynamicContext) (z : FlatState) → FlatLater z (signal (context_at setting k) class slots around z).state
signal_later setting k class slots around z = (signals {R = FlatLater} {k = later_kept} (context_at setting k) (tasks_below setting k) class slots around z).grows

-- ---- routines that are called

pub transfer_used : (setting : Setting) → IsPlaced setting → UsedAt setting.procedures (transfer_routine setting.at) (procedure_with Turn 2 (transfer_code setting.at))
transfer_used setting placed =
    subst (λ n. UsedAt setting.procedures n (procedure_with Turn 2 (transfer_code setting.at))) (omega arith) (routine_used setting placed 0 (procedure_with Turn 2 (transfer_code setting.at)) refl)

pub failing_used : (setting : Setting) → IsPlaced setting → UsedAt setting.procedures (failing_routine setting.at) (framed passing_frame (procedure_with Turn 1 (failing_code setting.at)))
failing_used setting placed = routine_used setting placed 7 (framed passing_frame (procedure_with Turn 1 (failing_code setting.at))) refl

-- a call begins where more was paid
pub begins_charged :
    (setting : Setting) {rs valid : List Standing} {n : ℕ} {w : World} {around : DynamicContext} {z : FlatState} {y : MidState} (cost : ℕ) → CallBegins setting rs valid n w around z y
    → CallBegins setting rs valid n w around z (charged cost y)
begins_charged setting {z = z} {y = y} cost b = point_begins setting {c = cost} (world_cost setting cost b.things) (around_cost setting z y cost (omega arith)) b

-- ---- what comes last in a routine

abbrev pub at_call : List ℕ → MidState → MidState
at_call args y = charged (call_cost args) y

-- what is returned is no falling out
pub returning_last :
    (setting : Setting) (k t : ℕ) {p : MidProcedure} (to number : ℕ) (args ws : List ℕ) (regs : Registers) (y : MidState) → slice_get setting.procedures number ≡ Some p → HoldAll args regs ws → to < length regs
    → IsLast (exec (code_at setting k t) (code_of (returning setting.at to number args)) regs y).end
returning_last setting k t to number args ws regs y there h low =
    subst (λ (q : MidOutcome). IsLast q.end) (sym (returning_is setting.at (code_at setting k t) to number args ws regs y there h low))
    (tail_known (code_at setting k t) to regs low (called (code_at setting k t) number ws (at_call args y))).last

-- where a condition is signalled it is no falling out
pub signals_last :
    (setting : Setting) → IsPlaced setting → (k t to class : ℕ) (regs : Registers) (y : MidState) → to < length regs
    → IsLast (exec (code_at setting k t) (code_of (signals_steps setting.at to class)) regs y).end
signals_last setting placed k t to class regs y low =
    subst (λ (q : MidOutcome). IsLast q.end) (sym ((and_then constant_falls (record { same = refl })).same))
    (returning_last setting k t to (failing_routine setting.at) (to ∷ []) (class ∷ []) (slice_set regs to (Some class)) (charged 6 y) (failing_used setting placed).there
    (register_here regs to class low, tt) (subst (λ n. to < n) (sym (length-set regs to (Some class))) low))

module _ (setting : Setting) (placed : IsPlaced setting) (k t : ℕ) {rs valid : List Standing} {w : World} {around : DynamicContext} {z : FlatState} {y : MidState} where
  -- the transfer to a record
  pub transfer_last :
      (to a b word : ℕ) (regs : Registers) (e : ℕ) (v : Value) (landing : Landing) (target : Standing) (landing_word : ℕ)
      → CallBegins setting rs valid transfer_words w around z y → HoldAll (a ∷ b ∷ []) regs (target.address ∷ word ∷ []) → to < length regs
      → record_of_exit e around.exits valid ≡ Some target → WordIs setting w word v → HasWordAt y landing_address landing_word
      → LandingIs setting landing_word landing → LandsIn (slice_get w.exit_forms e) landing
      → CallEnds setting (176 + landing_cost landing) (t + 48) rs valid w around z y (flat_leaves e v landing z) (exec (code_at setting k t) (code_of (returning setting.at to (transfer_routine setting.at) (a ∷ b ∷ []))) regs y)
  transfer_last to a b word regs e v landing target landing_word begins held low valid_target of_value landing_there landing_is lands =
      returning_leaves setting setting.at (code_at setting k t) to (transfer_routine setting.at) (a ∷ b ∷ []) (target.address ∷ word ∷ []) regs y (transfer_used setting placed).there held low (omega arith) begins.things
      (λ u same. cc same)
      (transfer_does setting placed k t rs valid w around z (at_call (a ∷ b ∷ []) y) e v landing target word landing_word valid_target of_value landing_there landing_is lands
      (begins_charged setting 52 begins))

  -- a new condition is signalled
  pub failing_last :
      (fails : FailsAt setting k t around) (to class : ℕ) (regs : Registers) → IsBuiltInCondition class 0 → CallBegins setting rs valid failing_words w around z y → SiteStored setting around y
      → to < length regs
      → CallEnds setting 516 (t + 0) rs valid w around z y (signal (context_at setting k) class [] around z) (exec (code_at setting k t) (code_of (signals_steps setting.at to class)) regs y)
  failing_last fails to class regs small begins site low =
      subst (λ q. CallEnds setting 516 (t + 0) rs valid w around z y (signal (context_at setting k) class [] around z) q) (sym steps)
      (call_behind setting {c1 = 6} (world_cost setting 6 begins.things) (around_cost setting z y 6 (omega arith)) {c2 = 510} (omega arith) refl (omega arith)
      (returning_comes setting setting.at (code_at setting k t) to (failing_routine setting.at) (to ∷ []) (class ∷ []) regs' y' (failing_used setting placed).there (register_here regs to class low, tt)
      (subst (λ n. to < n) (sym (length-set regs to (Some class))) low) (omega arith) (begins_charged setting 6 begins).things
      (fails rs valid w z (at_call (to ∷ []) y') class small site (begins_charged setting 46 (begins_charged setting 6 begins)))))
    where
      regs' : Registers
      regs' = slice_set regs to (Some class)

      y' : MidState
      y' = charged 6 y

      steps : exec (code_at setting k t) (code_of (signals_steps setting.at to class)) regs y ≡ exec (code_at setting k t) (code_of (returning setting.at to (failing_routine setting.at) (to ∷ []))) regs' y'
      steps = (and_then constant_falls (record { same = refl })).same

-- a control error is one
pub control_error_is : IsBuiltInCondition control_error_class 0
control_error_is = record { low = omega arith; high = omega arith; slots = refl }

-- ---- leaving by a number

module _ (setting : Setting) (placed : IsPlaced setting) (k t : ℕ) (rs valid : List Standing) (w : World) (around : DynamicContext) (fails : FailsAt setting k t around) (z : FlatState) (y : MidState)
    (begins : CallBegins setting rs valid failing_words w around z y) (site : SiteStored setting around y) (e : ℕ) (v : Value) (landing : Landing) (word landing_word : ℕ)
    (of_value : WordIs setting w word v) (landing_is : LandingIs setting landing_word landing) (lands : LandsIn (slice_get w.exit_forms e) landing) where
  open begins use {things, around_stands}

  abbrev c : Context
  c = code_at setting k t

  abbrev r : FlatEvaluated
  r = transfer (context_at setting k) (Some e) v landing around z

  abbrev registers_first : Registers
  registers_first = Some e ∷ Some word ∷ Some landing_word ∷ None ∷ None ∷ None ∷ None ∷ []

  abbrev Walked : Type 0
  Walked = LinksWalked setting.procedures c.below t e word landing_word None y around_stands.link None (y.cost + 6 + 8) around.exits valid

  abbrev transfers_code : Steps
  transfers_code = store 2 3 landing_address ∷ returning setting.at 6 (transfer_routine setting.at) (4 ∷ 1 ∷ [])

  abbrev fails_code : Steps
  fails_code = signals_steps setting.at 6 control_error_class

  module _ (walked : Walked) where
    abbrev registers_then : Registers
    registers_then = link_registers e word landing_word walked.at (Some walked.serial) None

    abbrev y_walked : MidState
    y_walked = record y { cost = walked.total }

    -- up to the choice
    runs : {q : MidOutcome} → exec c (code_of (if_equal 5 0 transfers_code fails_code ∷ [])) registers_then y_walked ≡ q → exec c (code_of (leave_code setting.at)) registers_first y ≡ q
    unfolding leave_code
    runs same =
        (and_then constant_falls
        (and_then (load_falls refl (address_above 0 link_address link_address (omega arith) (omega arith)) around_stands.link_word)
        (and_then walks (record { same = same })))).same
      where
        walks : StepsTo c along_links (link_registers e word landing_word around_stands.link None None) (record y { cost = y.cost + 6 + 8 }) (ends falls registers_then y_walked)
        walks = record { same = walked.run }

    abbrev y3 : MidState
    y3 = stored_state setting placed things landing_address of_landing landing_word (walked.passed + 1) (walked.total + 12 + 8)

    moved : Moved setting (walked.passed + 1) w (world_of setting placed w y) z y y3
    moved = moved_stored setting placed things landing_address of_landing landing_word (walked.passed + 1) (walked.total + 12 + 8)

    store_runs : exec c (code_of transfers_code) registers_then (charged 12 y_walked) ≡ exec c (code_of (returning setting.at 6 (transfer_routine setting.at) (4 ∷ 1 ∷ []))) registers_then y3
    store_runs =
        (and_then (store_falls refl refl (address_above 0 landing_address landing_address (omega arith) (omega arith)) (store_lent setting placed things landing_address of_landing)) (record { same = refl })).same

    comes : NumberSought e around.exits valid walked.passed walked.at walked.serial → CallEnds setting 262 (suc t + 0) rs valid w around z y r (exec c (code_of (leave_code setting.at)) registers_first y)
    comes (found x target number serial at there finds) =
        let meant : r ≡ flat_leaves e v landing (flat_charged (walked.passed + 1) z) =
        finds (λ x. flat_leaves x.number v landing) (signal (context_at setting k) control_error_class [] around) z ∙ ap (λ n. flat_leaves n v landing (flat_charged (walked.passed + 1) z)) number in
        let held : HoldAll (4 ∷ 1 ∷ []) registers_then (target.address ∷ word ∷ []) = (ap (λ n. Some n) at, (refl, tt)) in
        let last = returning_last setting k t 6 (transfer_routine setting.at) (4 ∷ 1 ∷ []) (target.address ∷ word ∷ []) registers_then y3 (transfer_used setting placed).there held (omega arith) in
        let here = first_alone c (test_of Equal 5 0) (code_of transfers_code) (code_of fails_code) registers_then y_walked refl refl (eq-eqb walked.serial e serial)
        (subst (λ (q : MidOutcome). IsLast q.end) (sym store_runs) last) in
        subst (λ q. CallEnds setting 262 (suc t + 0) rs valid w around z y r q) (sym (runs (here ∙ store_runs)))
        (subst (λ p. CallEnds setting 262 (suc t + 0) rs valid w around z y p (exec c (code_of (returning setting.at 6 (transfer_routine setting.at) (4 ∷ 1 ∷ []))) registers_then y3)) (sym meant)
        (call_behind setting moved.world moved.around {c2 = 176 + landing_cost landing} (let total = walked.cost_is in let most = landing_most landing in omega (arith, total, most)) refl (omega arith)
        (transfer_last setting placed k t 6 4 1 word registers_then e v landing target landing_word (begins_less setting transfer_words (omega arith) (point_begins setting moved.world moved.around begins)) held (omega arith) there
        (word_later moved.world.later v word of_value) (word_stored setting placed things landing_address of_landing landing_word (walked.passed + 1) (walked.total + 12 + 8)) landing_is
        lands)))
    comes (missing other few misses) =
        let meant : r ≡ signal (context_at setting k) control_error_class [] around (flat_charged (length around.exits) z) =
        misses (λ x. flat_leaves x.number v landing) (signal (context_at setting k) control_error_class [] around) z in
        let y4 : MidState = record y { cost = walked.total + 12 } in
        let there = moved_cost setting placed things (length around.exits) (walked.total + 12) in
        let here = second_alone c (test_of Equal 5 0) (code_of transfers_code) (code_of fails_code) registers_then y_walked refl refl other
        (signals_last setting placed k t 6 control_error_class registers_then (charged 12 y_walked) (omega arith)) in
        subst (λ q. CallEnds setting 262 (suc t + 0) rs valid w around z y r q) (sym (runs here))
        (subst (λ p. CallEnds setting 262 (suc t + 0) rs valid w around z y p (exec c (code_of fails_code) registers_then (charged 12 y_walked))) (sym meant)
        (call_behind setting there.world there.around {c2 = 516} (let total = walked.cost_is in omega (arith, total, few)) refl (omega arith)
        (failing_last setting placed k t fails 6 control_error_class registers_then control_error_is (point_begins setting there.world there.around begins) (there.site around site) (omega arith))))

  body_comes : CallEnds setting 262 (suc t + 0) rs valid w around z y r (exec c (code_of (leave_code setting.at)) registers_first y)
  body_comes =
      by (links_law setting.procedures c.below e word landing_word None w y rs around.exits valid t around_stands.link z.state.exits None (y.cost + 6 + 8) things.represents.arena.size around_stands.records
      around_stands.links around_stands.ends_at_end)
    where
      by : Walked ⊎ IsLong (has_number e) around.exits t → CallEnds setting 262 (suc t + 0) rs valid w around z y r (exec c (code_of (leave_code setting.at)) registers_first y)
      by (inl walked) = comes walked walked.sought
      by (inr long) =
          let charges = long (λ x. flat_leaves x.number v landing) (signal (context_at setting k) control_error_class [] around) (λ x y. omega arith)
          (λ y. (grown_later (signal_later setting k control_error_class [] around y)).units) z in
          few_turns (omega (arith, charges))

-- **the routine that leaves to an exit by its number**
pub leave_does :
    (setting : Setting) → IsPlaced setting → (k turns : ℕ) → (rs valid : List Standing) (w : World) (around : DynamicContext) → FailsWithin setting k turns around → (z : FlatState) (y : MidState)
    → LeaveDoes setting k turns rs valid w around z y
unfolding leave_code
leave_does setting placed k turns rs valid w around fails z y e v landing word landing_word of_value landing_is lands site begins =
    call_less setting (omega arith) (omega arith)
    (routine_enters setting k (leave_routine setting.at) passing_frame 3 (leave_code setting.at) used (e ∷ word ∷ landing_word ∷ []) refl y turns begins.things.represents.printed
    (grown_later (transfers {R = FlatLater} {k = later_kept} (context_at setting k) (tasks_below setting k) (Some e) v landing around z).grows)
    (let all = memory_holds setting begins.things in omega (arith, all)) begins.room begins.things.within_limit (omega arith) (omega arith) by)
  where
    used : UsedAt setting.procedures (leave_routine setting.at) (framed passing_frame (procedure_with Turn 3 (leave_code setting.at)))
    used = routine_used setting placed 1 (framed passing_frame (procedure_with Turn 3 (leave_code setting.at))) refl

    by : (t : ℕ) → turns ≡ suc t → used.frame ≤ left y.arena
        → CallEnds setting 300 (turns + 0) rs valid w around z y (transfer (context_at setting k) (Some e) v landing around z)
        (leaves y.arena.blocks (exec (code_at setting k t) (code_of (leave_code setting.at)) (routine_registers setting 3 (leave_code setting.at) (e ∷ word ∷ landing_word ∷ [])) (laid_frame setting used.frame 3 y)))
    by t same room =
        subst (λ n. CallEnds setting 300 (n + 0) rs valid w around z y (transfer (context_at setting k) (Some e) v landing around z)
        (leaves y.arena.blocks (exec (code_at setting k t) (code_of (leave_code setting.at)) (routine_registers setting 3 (leave_code setting.at) (e ∷ word ∷ landing_word ∷ [])) (laid_frame setting used.frame 3 y)))) (sym same)
        (body_leaves setting placed begins.things used.frame 3 room (omega arith)
        (body_comes setting placed k t rs valid (world_of setting placed w y) around (fails t (omega (arith, same))) z (laid_frame setting used.frame 3 y)
        (body_begins setting placed begins.things used.frame 3 room failing_words (let few = used.fewer in omega (arith, few)) begins)
        (laid_site setting placed begins.things used.frame 3 room around site) e v landing word landing_word of_value landing_is lands))
