-- A renamed program means the same: by induction on the levels.
use Rattle.std.specs.Prelude.{◌≡◌, ℕ, zero, suc, List, [], ◌∷◌, map}
use Rattle.std.proofs.Common.{ap, sym, ◌∙◌}
use Rattle.lang_meaning.specs.declared.program.ProgramRows.{ProgramRows}
use Rattle.lang_meaning.specs.Form.{Form}
use Rattle.lang_meaning.specs.Counts.{nodes, application_words}
use Rattle.lang_meaning.specs.Values.{Value, nil}
use Rattle.lang_meaning.specs.Objects.{no_environment}
use Rattle.lang_meaning.specs.State.{State, first_state, main_context, more, Limit, request, gives, go_on}
use Rattle.lang_meaning.specs.InitialHeap.{objects_at_start}
use Rattle.lang_meaning.specs.Signals.{Task, form, Evaluation}
use Rattle.lang_meaning.specs.Meaning.{mean_task, none_below, context_of, meaning_at, mean_mains, meant, meaning}
use Rattle.lang_renamed.specs.Renaming.{KeepsTexts, form_by, program_by}
use Rattle.lang_renamed.specs.RenamedRuns.{state_by, meant_by}
use Rattle.lang_renamed.specs.Laws.{LawOfTasks, LawOfMeaning}
use Rattle.lang_renamed.proofs.Walks.{nodes_by}
use Rattle.lang_renamed.proofs.Starting.{start_by}
use Rattle.lang_renamed.proofs.NoClosures.{no_closures}
use Rattle.lang_renamed.proofs.Alike.{Renamed, StateRenamed, now, moved, at_state, ended, given, on, requests}
use Rattle.lang_renamed.proofs.Applying.{Within}
use Rattle.lang_renamed.proofs.Forms.{tasks}

module _ (r : ℕ → ℕ) (old new : List (List ℕ)) (w : KeepsTexts r old new) (program : ProgramRows) (limit : Limit) where
  none_within : Within r none_below none_below
  none_within task env around z z' s = ended more s

  -- tasks with the meanings below
  above : (below higher : Task → Evaluation) → Within r below higher →
      Within r (mean_task (context_of old program limit below)) (mean_task (context_of new (program_by r program) limit higher))
  above below higher h =
      tasks (record { old = old; new = new; texts = w; program = program; limit = limit; below = below; higher = higher; within = h })

  pub levels_within : (k : ℕ) → Within r (meaning_at old program limit k) (meaning_at new (program_by r program) limit k)
  unfolding meaning_at
  levels_within zero = above none_below none_below none_within
  levels_within (suc k) = above (meaning_at old program limit k) (meaning_at new (program_by r program) limit k) (levels_within k)

  -- a main form in so many words
  main_in : (k size : ℕ) (f : Form) {z z' : State} → StateRenamed r z z' →
      Renamed r
      (request limit 0 size z (λ entered. go_on (meaning_at old program limit k (form f) no_environment main_context entered) (λ v after. gives v (record after { stack = z.stack }))))
      (request limit 0 size z' (λ entered. go_on (meaning_at new (program_by r program) limit k (form (form_by r f)) no_environment main_context entered) (λ v after. gives v (record after { stack = z'.stack }))))
  main_in k size f {z} s =
      at_state (λ y. request limit 0 size y (λ entered. go_on (meaning_at new (program_by r program) limit k (form (form_by r f)) no_environment main_context entered) (λ v after. gives v (record after { stack = y.stack })))) s
      (requests limit 0 size (now z) (λ y y' t.
      on (levels_within k (form f) no_environment main_context y y' t) (λ v x x' u.
      given v (record { is = ap (λ (a : State). record a { stack = z.stack }) u.is }))))

  mains : (k : ℕ) (fs : List Form) (last : Value) {z z' : State} → StateRenamed r z z' →
      Renamed r (mean_mains old program limit k fs last z) (mean_mains new (program_by r program) limit k (map (form_by r) fs) last z')
  mains k [] last s = given last s
  mains k (f ∷ fs) last {z} {z'} s =
      on
      (moved
      (ap (λ n. request limit 0 (application_words n) z' (λ entered. go_on (meaning_at new (program_by r program) limit k (form (form_by r f)) no_environment main_context entered)
      (λ v after. gives v (record after { stack = z'.stack })))) (nodes_by r f))
      (main_in k (application_words (nodes f)) f s))
      (λ v y y' t. mains k fs v t)

  -- the state before the first form
  starts : (input : List ℕ) → StateRenamed r (first_state (objects_at_start old program) input) (first_state (objects_at_start new (program_by r program)) input)
  starts input = record { is = ap (λ os. first_state os input) (start_by r old new w program ∙ sym (no_closures r old program)) }

  pub means_same : (input : List ℕ) (k : ℕ) → meaning new (program_by r program) input k limit ≡ meant_by r (meaning old program input k limit)
  unfolding meaning
  means_same input k = ap meant (mains k program.main nil (starts input)).is

pub law_of_tasks : LawOfTasks
law_of_tasks r old new program limit k task env around z h =
    (levels_within r old new h program limit k task env around z (state_by r z) (now z)).is

pub law_of_meaning : LawOfMeaning
law_of_meaning r old new program input k limit h = means_same r old new h program limit input k
