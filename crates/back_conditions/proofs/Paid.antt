-- A control error, which leaves one of the units of its words over.
use Rattle.std.proofs.Common.{◌≡◌, ℕ, suc, ◌+◌, ◌≤◌, Bool, true, false, List, [], ◌∷◌, length, refl, sym, ap, ◌∙◌, subst, arith}
use Rattle.lang_meaning.specs.Objects.{control_error_class, instance}
use Rattle.lang_meaning.specs.Prefixes.{IsPrefix}
use Rattle.lang_meaning.specs.State.{DynamicContext, has_room, room_left}
use Rattle.lang_meaning.specs.State as meaning
use Rattle.lang_meaning.specs.Values.{nil, object}
use Rattle.lang_meaning.specs.Counts.{unit_cost}
use Rattle.flat_language.specs.FlatSignals.{signal}
use Rattle.flat_language.specs.FlatState.{FlatState, FlatEvaluated, charged}
use Rattle.flat_laws.specs.FlatLater.{FlatLater}
use Rattle.flat_laws.proofs.Applied.{signals_under}
use Rattle.flat_laws.proofs.Later.{later_kept}
use Rattle.mid_code.specs.declared.operation.Counted.TheVariants.{Turn}
use Rattle.mid_code.specs.Arena.{left}
use Rattle.mid_code.specs.Law.{Grown}
use Rattle.mid_code.specs.Meaning.{exec, leaves}
use Rattle.mid_code.specs.MidCode.{code_of}
use Rattle.mid_code.specs.State.{MidState, MidOutcome}
use Rattle.back_lowering.specs.Program.{procedure_with, framed, passing_frame}
use Rattle.back_lowering.specs.RoutineCodes.{failing_code}
use Rattle.back_lowering.specs.Routines.{failing_routine}
use Rattle.back_relation.specs.Setting.{Setting}
use Rattle.back_relation.specs.Placed.{IsPlaced}
use Rattle.back_relation.specs.Room.{raise_words, failing_words}
use Rattle.back_relation.specs.Worlds.{World, Standing}
use Rattle.back_relation.specs.Around.{CallBegins, SiteStored}
use Rattle.back_relation.specs.Ends.{Returned, LeftCall, Ends, CallEnds, done, left_by, full_there, stopped, few_turns}
use Rattle.back_relation.specs.Forms.{context_at, code_at}
use Rattle.back_relation.specs.Procedures.{called}
use Rattle.back_relation.specs.Starts.{FlatGrown}
use Rattle.back_relation.proofs.Growth.{grown_later}
use Rattle.back_relation.proofs.Straight.{world_units, around_units}
use Rattle.back_calling.proofs.Applied.{called_grows}
use Rattle.back_exits.proofs.Bodies.{world_of, body_begins, body_leaves, laid_site}
use Rattle.back_exits.proofs.Entries.{UsedAt, routine_used, routine_registers, laid_frame, routine_enters}
use Rattle.back_exits.proofs.Frames.{memory_holds}
use Rattle.back_exits.proofs.LeavingRoutine.{tasks_below, control_error_is}
use Rattle.back_exits.proofs.Points.{point_begins}
use Rattle.back_exits.proofs.Within.{begins_less}
use Rattle.back_conditions.specs.Within.{RaisesWithin, making_credit, making_spare}
use Rattle.back_conditions.proofs.Failing.{failing_comes}
use Rattle.back_conditions.proofs.Making.{meant, with_size}
use Rattle.back_conditions.specs.Handled.{FailsPaid}

module _ (setting : Setting) (placed : IsPlaced setting) (k raise_credit : ℕ) (low : raise_credit ≤ 1000) (around : DynamicContext) (turns : ℕ) (raises : RaisesWithin setting k turns around 0 raise_credit)
    (rs valid : List Standing) (w : World) (z : FlatState) (y : MidState) (site : SiteStored setting around y) (begins : CallBegins setting rs valid failing_words w around z y) where
  abbrev r : FlatEvaluated
  r = signal (context_at setting k) control_error_class [] around z

  abbrev q : MidOutcome
  q = called (code_at setting k turns) (failing_routine setting.at) (control_error_class ∷ []) y

  abbrev fits : Bool
  fits = has_room setting.limit (z.state.heap + z.state.stack + 3 + 0)

  begins_there : CallBegins setting rs valid raise_words w around z y
  begins_there = begins_less setting raise_words (omega arith) begins

  abbrev size_so : Bool → FlatEvaluated
  size_so = with_size setting placed k 0 raise_credit 0 rs valid w around (raises 0 (omega arith)) z y begins_there site control_error_class [] [] control_error_is tt 3

  means : r ≡ size_so fits
  means = meant setting placed k 0 raise_credit 0 rs valid w around (raises 0 (omega arith)) z y begins_there site control_error_class [] [] control_error_is tt

  abbrev Paid : Type 0
  Paid = Ends setting (making_credit + unit_cost) (Returned setting making_credit w (charged 1 z) y r q) (LeftCall setting making_credit rs valid w around (charged 1 z) y r q) turns (charged 1 z) y r q

  -- there are no words in the meaning
  none_there : fits ≡ false → Paid
  none_there e =
      full_there (record {
        asked = 3 + 0;
        left_then = room_left setting.limit (z.state.heap + z.state.stack);
        outcome = ap (λ (p : FlatEvaluated). p.outcome) (means ∙ ap size_so e);
        printed =
            subst (λ (p : FlatEvaluated). IsPrefix p.state.state.printed q.state.printed) (sym (means ∙ ap size_so e))
            (subst (λ ps. IsPrefix ps q.state.printed) begins.things.represents.printed (record { rest = grown.printed.0; is = sym grown.printed.1 }));
      })
    where
      grown : Grown y q.state
      grown = called_grows setting k turns (failing_routine setting.at) (control_error_class ∷ []) y

  abbrev made : FlatState
  made = record z { state = meaning.stored (instance control_error_class [] nil) (meaning.charged (3 + 0) (meaning.with_words 3 0 z.state)) }

  -- there are words
  some_there : fits ≡ true → Paid
  unfolding failing_code
  some_there e = by comes
    where
      later : FlatGrown made r.state
      later =
          subst (λ (p : FlatEvaluated). FlatGrown made p.state) (sym (means ∙ ap size_so e))
          (grown_later (signals_under {R = FlatLater} {k = later_kept} (context_at setting k) (tasks_below setting k) around.handlers (object (length z.state.store)) nil around made).grows)

      grown : FlatGrown (charged 1 z) r.state
      grown = record { printed = later.printed; units = let up = later.units in omega (arith, up); exits = later.exits }

      begins1 : CallBegins setting rs valid failing_words w around (charged 1 z) y
      begins1 = point_begins setting (world_units setting 1 begins.things) (around_units setting z y 1) begins

      used : UsedAt setting.procedures (failing_routine setting.at) (framed passing_frame (procedure_with Turn 1 (failing_code setting.at)))
      used = routine_used setting placed 7 (framed passing_frame (procedure_with Turn 1 (failing_code setting.at))) refl

      entered : (t : ℕ) → turns ≡ suc t → used.frame ≤ left y.arena
          → CallEnds setting making_credit (turns + making_spare) rs valid w around (charged 1 z) y r
          (leaves y.arena.blocks (exec (code_at setting k t) (code_of (failing_code setting.at)) (routine_registers setting 1 (failing_code setting.at) (control_error_class ∷ [])) (laid_frame setting used.frame 1 y)))
      entered t same room =
          subst (λ n. CallEnds setting making_credit (n + making_spare) rs valid w around (charged 1 z) y r
          (leaves y.arena.blocks (exec (code_at setting k t) (code_of (failing_code setting.at)) (routine_registers setting 1 (failing_code setting.at) (control_error_class ∷ [])) (laid_frame setting used.frame 1 y)))) (sym same)
          (body_leaves setting placed begins1.things used.frame 1 room (omega arith)
          (failing_comes setting placed k t raise_credit low rs valid (world_of setting placed w y) around (raises t (omega (arith, same))) z (laid_frame setting used.frame 1 y)
          (body_begins setting placed begins.things used.frame 1 room raise_words (let few = used.fewer in omega (arith, few)) begins)
          (laid_site setting placed begins.things used.frame 1 room around site) control_error_class control_error_is))

      comes : CallEnds setting making_credit (turns + making_spare) rs valid w around (charged 1 z) y r q
      comes =
          routine_enters setting k (failing_routine setting.at) passing_frame 1 (failing_code setting.at) used (control_error_class ∷ []) refl y turns begins1.things.represents.printed grown
          (let all = memory_holds setting begins1.things in omega (arith, all)) begins1.room begins1.things.within_limit (omega arith) (omega arith) entered

      by : CallEnds setting making_credit (turns + making_spare) rs valid w around (charged 1 z) y r q → Paid
      by (done x) = done x
      by (left_by x) = left_by x
      by (full_there x) = full_there x
      by (stopped x) = stopped x
      by (few_turns x) = few_turns (omega (arith, x))

  paid : Paid
  paid = by fits refl
    where
      by : (b : Bool) → fits ≡ b → Paid
      by true e = some_there e
      by false e = none_there e

-- **a control error leaves a unit over**, where it is known what a signal does
pub fails_paid :
    (setting : Setting) → IsPlaced setting → (k raise_credit : ℕ) → raise_credit ≤ 1000 → (around : DynamicContext) (turns : ℕ) → RaisesWithin setting k turns around 0 raise_credit → FailsPaid setting k turns around
fails_paid setting placed k raise_credit low around turns raises rs valid w z y site begins = paid setting placed k raise_credit low around turns raises rs valid w z y site begins
