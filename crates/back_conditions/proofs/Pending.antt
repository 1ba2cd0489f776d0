-- The routine that signals the condition that a primitive made.
use Rattle.std.proofs.Common.{◌≡◌, ℕ, suc, ◌+◌, ◌≤◌, true, List, [], ◌∷◌, Some, None, refl, sym, ap, ◌∙◌, subst, arith}
use Rattle.lang_meaning.specs.Classes.{is_condition}
use Rattle.lang_meaning.specs.State.{DynamicContext}
use Rattle.lang_meaning.specs.Values.{Value, nil}
use Rattle.flat_language.specs.FlatNodes.{tables}
use Rattle.flat_language.specs.FlatSignals.{signal_under}
use Rattle.flat_language.specs.FlatState.{FlatState}
use Rattle.flat_laws.specs.FlatLater.{FlatLater}
use Rattle.flat_laws.proofs.Applied.{signals_under}
use Rattle.flat_laws.proofs.Later.{later_kept}
use Rattle.mid_code.specs.declared.operation.Counted.TheVariants.{Turn}
use Rattle.mid_code.specs.Arena.{left}
use Rattle.mid_code.specs.Meaning.{Context, exec, leaves}
use Rattle.mid_code.specs.MidCode.{code_of}
use Rattle.mid_code.specs.State.{charged, MidState}
use Rattle.mid_arena.specs.Tags.{nil_word}
use Rattle.mid_arena.specs.FixedWords.{pending_address}
use Rattle.mid_arena.proofs.Running.{and_then, constant_falls, load_falls, address_above}
use Rattle.back_lowering.specs.RoutineCodes.{pending_code, returning}
use Rattle.back_lowering.specs.Program.{procedure_with, framed, passing_frame}
use Rattle.back_lowering.specs.Routines.{raise_routine, pending_routine}
use Rattle.back_relation.specs.Setting.{Setting}
use Rattle.back_relation.specs.Placed.{IsPlaced}
use Rattle.back_relation.specs.Room.{raise_words}
use Rattle.back_relation.specs.Worlds.{World, Standing}
use Rattle.back_relation.specs.StackWords.{HasWordAt}
use Rattle.back_relation.specs.Around.{CallBegins, SiteStored}
use Rattle.back_relation.specs.Ends.{CallEnds}
use Rattle.back_relation.specs.Forms.{context_at, code_at}
use Rattle.back_relation.specs.RoutineClaims.{WordIs}
use Rattle.back_relation.proofs.Growth.{grown_later}
use Rattle.back_relation.proofs.Straight.{world_cost, around_cost}
use Rattle.back_relation.proofs.Worlds.{word_later}
use Rattle.back_exits.proofs.Frames.{memory_holds}
use Rattle.back_exits.proofs.Entries.{UsedAt, routine_used, routine_registers, laid_frame, routine_enters}
use Rattle.back_exits.proofs.Bodies.{world_of, body_begins, body_leaves, laid_site, laid_before, laid_world}
use Rattle.back_exits.proofs.LeavingRoutine.{tasks_below, begins_charged}
use Rattle.back_exits.proofs.Returning.{call_behind, returning_comes}
use Rattle.back_conditions.specs.Within.{RaisesAt, RaisesWithin, PendingWithin}
use Rattle.back_conditions.proofs.Making.{raise_used}

module _ (setting : Setting) (placed : IsPlaced setting) (k t spare credit : ℕ) (rs valid : List Standing) (w : World) (around : DynamicContext) (raises : RaisesAt setting k t around (spare + 1) credit) (z : FlatState)
    (y : MidState) (begins : CallBegins setting rs valid raise_words w around z y) (site : SiteStored setting around y) (c : Value) (condition : is_condition (tables setting.program) z.state c ≡ true) (word : ℕ)
    (of_condition : WordIs setting w word c) (there : HasWordAt y pending_address word) where
  abbrev cx : Context
  cx = code_at setting k t

  pending_runs : exec cx (code_of (pending_code setting.at)) (None ∷ None ∷ None ∷ []) y
      ≡ exec cx (code_of (returning setting.at 2 (raise_routine setting.at) (0 ∷ 1 ∷ []))) (Some word ∷ Some nil_word ∷ None ∷ []) (record y { cost = y.cost + 6 + 8 + 6 })
  unfolding pending_code
  pending_runs =
      (and_then constant_falls
      (and_then (load_falls refl (address_above 0 pending_address pending_address (omega arith) (omega arith)) there)
      (and_then constant_falls (record { same = refl })))).same

  paid : y.cost + 20 ≡ y.cost + 6 + 8 + 6
  paid = omega arith

  pending_comes : CallEnds setting (credit + 86) (suc t + spare) rs valid w around z y (signal_under (context_at setting k) around.handlers c nil around z)
      (exec cx (code_of (pending_code setting.at)) (None ∷ None ∷ None ∷ []) y)
  pending_comes =
      subst (λ q. CallEnds setting (credit + 86) (suc t + spare) rs valid w around z y (signal_under (context_at setting k) around.handlers c nil around z) q)
      (sym (pending_runs ∙ ap (λ n. exec cx (code_of (returning setting.at 2 (raise_routine setting.at) (0 ∷ 1 ∷ []))) (Some word ∷ Some nil_word ∷ None ∷ []) (record y { cost = n })) (sym paid)))
      (call_behind setting {c1 = 20} (world_cost setting 20 begins.things) (around_cost setting z y 20 (omega arith)) {c2 = 66 + credit} (omega arith) {t = suc t + spare} {t' = t + (spare + 1)} refl (omega arith)
      (returning_comes setting setting.at cx 2 (raise_routine setting.at) (0 ∷ 1 ∷ []) (word ∷ nil_word ∷ []) (Some word ∷ Some nil_word ∷ None ∷ []) (charged 20 y) (raise_used setting placed).there (refl, (refl, tt)) (omega arith)
      (omega arith) (begins_charged setting 20 begins).things
      (raises rs valid w z (charged 52 (charged 20 y)) c nil word nil_word condition of_condition refl site (begins_charged setting 52 (begins_charged setting 20 begins)))))

-- **the condition that a primitive made is signalled**
pub pending_does :
    (setting : Setting) → IsPlaced setting → (k spare credit : ℕ) → spare ≤ 55 → (turns : ℕ) (rs valid : List Standing) (w : World) (around : DynamicContext) → RaisesWithin setting k turns around (spare + 1) credit → (z : FlatState) (y : MidState)
    → PendingWithin setting k turns rs valid w around z y spare (credit + 106)
unfolding pending_code
pending_does setting placed k spare credit few turns rs valid w around raises z y c condition at site begins =
    routine_enters setting k (pending_routine setting.at) passing_frame 0 (pending_code setting.at) used [] refl y turns begins.things.represents.printed
    (grown_later (signals_under {R = FlatLater} {k = later_kept} (context_at setting k) (tasks_below setting k) around.handlers c nil around z).grows)
    (let all = memory_holds setting begins.things in omega (arith, all, few)) begins.room begins.things.within_limit (omega arith) (omega arith) by
  where
    used : UsedAt setting.procedures (pending_routine setting.at) (framed passing_frame (procedure_with Turn 0 (pending_code setting.at)))
    used = routine_used setting placed 6 (framed passing_frame (procedure_with Turn 0 (pending_code setting.at))) refl

    by : (t : ℕ) → turns ≡ suc t → used.frame ≤ left y.arena
        → CallEnds setting (credit + 106) (turns + spare) rs valid w around z y (signal_under (context_at setting k) around.handlers c nil around z)
        (leaves y.arena.blocks (exec (code_at setting k t) (code_of (pending_code setting.at)) (routine_registers setting 0 (pending_code setting.at) []) (laid_frame setting used.frame 0 y)))
    by t same room =
        subst (λ n. CallEnds setting (credit + 106) (n + spare) rs valid w around z y (signal_under (context_at setting k) around.handlers c nil around z)
        (leaves y.arena.blocks (exec (code_at setting k t) (code_of (pending_code setting.at)) (routine_registers setting 0 (pending_code setting.at) []) (laid_frame setting used.frame 0 y)))) (sym same)
        (body_leaves setting placed begins.things used.frame 0 room (omega arith)
        (pending_comes setting placed k t spare credit rs valid (world_of setting placed w y) around (raises t (omega (arith, same))) z (laid_frame setting used.frame 0 y)
        (body_begins setting placed begins.things used.frame 0 room raise_words (let less = used.fewer in omega (arith, less)) begins)
        (laid_site setting placed begins.things used.frame 0 room around site) c condition at.word
        (word_later (laid_world setting placed begins.things used.frame 0 room).later c at.word at.of_value)
        (laid_before setting placed begins.things used.frame 0 room pending_address at.word (omega arith) at.stands)))
