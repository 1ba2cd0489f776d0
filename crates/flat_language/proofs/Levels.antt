-- Whole runs of a program and of it made flat: by induction on the levels.
use Rattle.std.proofs.Common.{ℕ, zero, suc, ◌+◌, List, [], ◌∷◌, refl, sym, ap, subst, None}
use Rattle.std.specs.Prelude.{⊤, slice_get}
use Rattle.lang_meaning.specs.declared.program.ProgramRows.{ProgramRows}
use Rattle.lang_meaning.specs.Form.{Form}
use Rattle.lang_meaning.specs.Counts as core_counts
use Rattle.lang_meaning.specs.Counts.{application_words}
use Rattle.lang_meaning.specs.Values.{Value}
use Rattle.lang_meaning.specs.Objects.{no_environment}
use Rattle.lang_meaning.specs.State.{State, first_state, main_context, more, Evaluated, Limit}
use Rattle.lang_meaning.specs.Signals.{Task, Evaluation}
use Rattle.lang_meaning.specs.Meaning.{none_below, meaning_at, mean_main, mean_mains}
use Rattle.flat_language.specs.FlatForm.{FlatForm}
use Rattle.flat_language.specs.declared.program.FlatProcedure.{FlatProcedure}
use Rattle.flat_language.specs.declared.program.FlatProgram.{FlatProgram}
use Rattle.flat_language.specs.FlatState.{FlatState, FlatEvaluated}
use Rattle.flat_language.specs.FlatState as flat_state
use Rattle.flat_language.specs.FlatSignals.{FlatTask, FlatEvaluation}
use Rattle.flat_language.specs.FlatSignals as flat_signals
use Rattle.flat_language.specs.FlatMeaning as flat_meaning
use Rattle.flat_language.specs.FlatMeaning.{flat_meaning_at}
use Rattle.flat_language.specs.Scope.{no_scope}
use Rattle.flat_language.specs.Flatten.{flat, functions, flat_mains}
use Rattle.flat_language.proofs.Alike.{World, Sound, Beside, Sim}
use Rattle.flat_language.proofs.Combined.{kept_itself, matches_kept, step, ends, given, on, requests, frame_made, frame_left}
use Rattle.flat_language.proofs.Nodes.{nodes_same}
use Rattle.flat_language.proofs.Applied.{Both, BelowAlike, ProceduresMatch, no_scope_matches}
use Rattle.flat_language.proofs.Forms.{tasks_alike}

-- main forms that can be made flat, one after another
abbrev pub SoundMains : List FlatProcedure → ℕ → List Form → Type 0
SoundMains lambdas n [] = ⊤
SoundMains lambdas n (f ∷ fs) = Sound lambdas no_scope n f × SoundMains lambdas (n + functions f) fs

none_alike : (lambdas : List FlatProcedure) → BelowAlike lambdas none_below flat_meaning.none_below
none_alike lambdas = record {
  nothing_alike = λ w around bound z y x. ends more x;
  forms_alike = λ s n f t w env e m around bound z y x. ends more x;
  turns_alike = λ s m n i rest all t u w env e q around bound z y x. ends more x;
  methods_alike = λ c vs w around bound z y x. ends more x;
}

module _ (names : List (List ℕ)) (program : ProgramRows) (procedures lambdas : List FlatProcedure) (mains : List FlatForm) (limit : Limit)
    (all : (i : ℕ) → ProceduresMatch lambdas (slice_get program.procedures i) (slice_get procedures i)) where
  abbrev pub rows_of : FlatProgram
  rows_of = record {
    literals = program.literals;
    procedures = procedures;
    lambdas = lambdas;
    classes = program.classes;
    generics = program.generics;
    functions = program.functions;
    main = mains;
    sites = program.sites;
  }

  both : (low : Task → Evaluation) (low' : FlatTask → FlatEvaluation) → BelowAlike lambdas low low' → Both
  both low low' alike = record {
    names = names;
    program = program;
    procedures = procedures;
    lambdas = lambdas;
    main = mains;
    limit = limit;
    low = low;
    low' = low';
    alike = alike;
    all = all;
  }

  levels_alike : (k : ℕ) → BelowAlike lambdas (meaning_at names program limit k) (flat_meaning_at names rows_of limit k)
  unfolding meaning_at flat_meaning_at both
  levels_alike zero = tasks_alike (both none_below flat_meaning.none_below (none_alike lambdas))
  levels_alike (suc k) = tasks_alike (both (meaning_at names program limit k) (flat_meaning_at names rows_of limit k) (levels_alike k))

  main_alike : (k n : ℕ) (f : Form) → Sound lambdas no_scope n f → (w : World) (z : State) (y : FlatState) → Beside lambdas w z y
      → Sim lambdas w (mean_main names program limit k f z) (flat_meaning.mean_main names rows_of limit k (flat no_scope n f) y)
  main_alike k n f t w z y x =
      subst (λ c. Sim lambdas w (mean_main names program limit k f z)
      (flat_state.request limit 0 (application_words c) y (λ entered.
      flat_state.go_on (flat_state.in_own_frame (λ inner.
      flat_meaning_at names rows_of limit k (flat_signals.form (flat no_scope n f)) flat_state.no_environment main_context inner) entered) (λ v after.
      flat_state.gives v (flat_state.on_state (λ (q : State). record q { stack = y.state.stack }) after)))))
      (sym (nodes_same no_scope n f))
      (requests limit 0 (application_words (core_counts.nodes f)) z y x (λ entered later a.
      let alone_now : World = record a.world { own = []; start = entered.variables } in
      on (frame_left a (kept_itself a.world.kinds) refl
      ((levels_alike k).forms_alike no_scope n f t alone_now no_environment flat_state.no_environment
      (matches_kept (kept_itself a.world.kinds) refl (no_scope_matches a.world.kinds None)) main_context (record { bindings = []; same = tt })
      entered _ (frame_made a))) (λ v after after' b.
      subst (λ c. Sim lambdas w (record { outcome = Rattle.lang_meaning.specs.State.value v; state = record after { stack = z.stack } }) (flat_state.gives v (flat_state.on_state (λ (q : State). record q { stack = c }) after')))
      (sym (ap (λ (q : FlatState). q.state.stack) x.is))
      (given v (step (λ (q : State). record q { stack = z.stack }) b (λ q. refl) (λ q. refl) (λ q os vs. refl))))))

  pub mains_alike : (k n : ℕ) (fs : List Form) → SoundMains lambdas n fs → (last : Value) (w : World) (z : State) (y : FlatState) → Beside lambdas w z y
      → Sim lambdas w (mean_mains names program limit k fs last z) (flat_meaning.mean_mains names rows_of limit k (flat_mains n fs) last y)
  mains_alike k n [] t last w z y x = given last x
  mains_alike k n (f ∷ fs) t last w z y x =
      on (main_alike k n f t.0 w z y x) (λ v after later a. mains_alike k (n + functions f) fs t.1 v w after later a)
