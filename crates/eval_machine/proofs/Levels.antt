-- Whole runs of the machine: by induction on the levels, and main form after main form.
use Rattle.std.proofs.Common.{ℕ, zero, suc, List, [], ◌∷◌, refl}
use Rattle.lang_meaning.specs.Counts.{application_words}
use Rattle.lang_meaning.specs.Values.{Value, nil}
use Rattle.lang_meaning.specs.State.{State, main_context}
use Rattle.lang_meaning.specs.Meaning.{with_turns}
use Rattle.flat_language.specs.FlatForm.{FlatForm}
use Rattle.flat_language.specs.FlatNodes.{nodes}
use Rattle.flat_language.specs.FlatState.{no_environment, FlatState, gives, go_on, on_state, in_own_frame}
use Rattle.flat_language.specs.FlatSignals.{form, signal}
use Rattle.flat_language.specs.FlatMeaning.{flat_meaning_at, mean_main, mean_mains}
use Rattle.eval_machine.specs.Configuration.{Setting, ContinuationFrame, evaluate, main_form, main_forms, awaits, restores_slots, configuration, then_on}
use Rattle.eval_machine.specs.Applications.{requested}
use Rattle.eval_machine.specs.Step.{value_step}
use Rattle.eval_machine.proofs.Reach.{ReachesOutcome, here, on, slots_left, asks}
use Rattle.eval_machine.proofs.Applied.{context_at, situation, TasksCome, LowerCome, chains, signals_come}
use Rattle.eval_machine.proofs.Forms.{form_means, sequence_means, segments_turn}

module _ (s : Setting) where
  -- the tasks of a level, where those of the level below are known
  tasks_come : (l : ℕ) → LowerCome s l → TasksCome s l
  unfolding flat_meaning_at
  tasks_come zero t = record {
    nothing_comes = λ around z. refl;
    form_comes = form_means s zero t;
    turn_comes = λ e left all env around frames z.
        segments_turn s zero t e all env around (sequence_means s zero t nil left env (with_turns e around) _ z);
    methods_come = λ c vs around frames z.
        chains s zero t (signal (context_at s zero)) around (signals_come s zero t around) c vs frames z;
  }
  tasks_come (suc k) t = record {
    nothing_comes = λ around z. refl;
    form_comes = form_means s (suc k) t;
    turn_comes = λ e left all env around frames z.
        segments_turn s (suc k) t e all env around (sequence_means s (suc k) t nil left env (with_turns e around) _ z);
    methods_come = λ c vs around frames z.
        chains s (suc k) t (signal (context_at s (suc k))) around (signals_come s (suc k) t around) c vs frames z;
  }

  pub level_comes : (k : ℕ) → TasksCome s k
  level_comes zero = tasks_come zero tt
  level_comes (suc k) = tasks_come (suc k) (level_comes k)

  -- a main form, which has a frame of its own
  main_comes : (k : ℕ) (f : FlatForm) (frames : List ContinuationFrame) (z : FlatState)
      → ReachesOutcome s (then_on (requested s.limit 0 (application_words (nodes f)) z) frames (λ ignored entered.
      configuration (evaluate f (situation k no_environment main_context))
      (restores_slots entered.frame ∷ awaits (main_form z.state.stack) ∷ frames) (record entered { frame = [] })))
      (mean_main s.names s.program s.limit k f z) frames
  main_comes k f frames z =
      asks s s.limit 0 (application_words (nodes f)) z _
      {follow = λ entered.
      go_on (in_own_frame (λ inner. flat_meaning_at s.names s.program s.limit k (form f) no_environment main_context inner) entered) (λ v after.
      gives v (on_state (λ (y : State). record y { stack = z.state.stack }) after))}
      (λ ignored entered.
      on s (slots_left s ((level_comes k).form_comes f no_environment main_context
      (restores_slots entered.frame ∷ awaits (main_form z.state.stack) ∷ frames) (record entered { frame = [] }))) (λ v after. here s))

  -- main forms in order
  pub mains_come : (k : ℕ) (fs : List FlatForm) (last : Value) (frames : List ContinuationFrame) (z : FlatState)
      → ReachesOutcome s (value_step s (main_forms k fs) last frames z) (mean_mains s.names s.program s.limit k fs last z) frames
  mains_come k [] last frames z = here s
  mains_come k (f ∷ fs) last frames z = on s (main_comes k f (awaits (main_forms k fs) ∷ frames) z) (λ v after. mains_come k fs v frames after)
