-- A condition that a primitive made is signalled: the site is stored, and the routine is called.
use Rattle.std.proofs.Common.{◌≡◌, ℕ, ◌+◌, ◌<◌, ◌≤◌, true, List, [], ◌∷◌, ◌++◌, length, refl, ◌∙◌, arith}
use Rattle.std.proofs.lemmas.Bool.{ne_eqb}
use Rattle.lang_meaning.specs.Classes.{is_condition}
use Rattle.lang_meaning.specs.State.{DynamicContext}
use Rattle.lang_meaning.specs.Values.{Value, nil}
use Rattle.flat_language.specs.FlatNodes.{tables}
use Rattle.flat_language.specs.FlatSignals.{signal_under}
use Rattle.flat_language.specs.FlatState.{FlatState}
use Rattle.flat_laws.specs.FlatLater.{FlatLater}
use Rattle.flat_laws.proofs.Applied.{signals_under}
use Rattle.flat_laws.proofs.Later.{later_kept}
use Rattle.mid_code.specs.Meaning.{Context, exec}
use Rattle.mid_code.specs.MidCode.{code_of}
use Rattle.mid_code.specs.State.{Registers, MidState}
use Rattle.mid_arena.specs.FixedWords.{pending_address}
use Rattle.mid_arena.specs.Standing.{ValueAt}
use Rattle.mid_arena.proofs.Memory.{word_elsewhere}
use Rattle.mid_arena.proofs.Running.{none_left, costing}
use Rattle.back_lowering.specs.ControlWords.{site_address}
use Rattle.back_lowering.specs.Leaves.{site_stored}
use Rattle.back_lowering.specs.Routines.{pending_routine}
use Rattle.back_lowering.specs.Steps.{call}
use Rattle.back_relation.specs.Setting.{Setting}
use Rattle.back_relation.specs.Room.{routine_words, failing_words}
use Rattle.back_relation.specs.Forms.{context_at, code_at}
use Rattle.back_relation.specs.RoutineClaims.{routine_credit}
use Rattle.back_relation.specs.Starts.{Start, EndsAt}
use Rattle.back_calling.specs.Calling.{Between}
use Rattle.back_calling.specs.Storing.{stored_at, standing_world}
use Rattle.back_calling.proofs.Growing.{tasks_below}
use Rattle.back_calling.proofs.Sited.{sited_calls_law}
use Rattle.back_primitives.specs.Calling.{PendingDoesAnywhere}

-- no steps set no registers
nothing_between : (c : Context) (regs : Registers) (y : MidState) (d : ℕ) → Between c [] regs y d 0 [] []
nothing_between c regs y d = record {
  regs' = regs;
  runs = (costing none_left (omega arith)).same;
  arguments_there = tt;
  below = λ i few. refl;
  count = refl;
}

module _ (setting : Setting) (k : ℕ) where
  pub under_later :
      (hs : List Value) (c : Value) (around : DynamicContext) (z : FlatState) → FlatLater z (signal_under (context_at setting k) hs c nil around z).state
  under_later hs c around z = (signals_under {R = FlatLater} {k = later_kept} (context_at setting k) (tasks_below setting k) hs c nil around z).grows

  -- what the site's storing costs, and the call of the routine
  abbrev pub signalling_credit : ℕ
  signalling_credit = routine_credit + 60

  pub pending_ends :
      (b : Start setting) (c : Value) → PendingDoesAnywhere setting k b.turns b.rs b.valid b.around → b.d + 1 < length b.regs → routine_words ≤ b.n
      → is_condition (tables setting.program) b.z.state c ≡ true → ValueAt b.w.places b.y.arena pending_address c
      → EndsAt setting signalling_credit b (signal_under (context_at setting k) b.around.handlers c nil b.around b.z)
      (exec (code_at setting k b.turns) (code_of (site_stored b.s.code.site b.d (b.d + 1) ++ (call b.d (pending_routine setting.at) [] ∷ []))) b.regs b.y)
  pending_ends b c does there room condition at =
      sited_calls_law setting k b signalling_credit failing_words routine_credit 0 b.d b.d (b.d + 1) (pending_routine setting.at) [] [] []
      (signal_under (context_at setting k) b.around.handlers c nil b.around b.z) (omega arith) (omega arith) (omega arith) (omega arith) there (omega (arith, room))
      (under_later b.around.handlers c b.around b.z) (λ regs number paid others. nothing_between (code_at setting k b.turns) regs (stored_at site_address number paid b.y) b.d)
      (λ number paid.
      does (standing_world b.w b.y) b.z (stored_at site_address number paid b.y) c condition
      (record {
        word = at.word;
        of_value = at.of_value;
        stands = word_elsewhere b.y.arena site_address number pending_address refl (ne_eqb site_address pending_address (λ e. absurd (omega arith))) ∙ at.stands;
      }))
