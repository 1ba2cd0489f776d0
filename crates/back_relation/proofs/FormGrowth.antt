-- Forms only grow, at every level.
use Rattle.std.proofs.Common.{ℕ, zero, suc}
use Rattle.lang_meaning.specs.State.{DynamicContext}
use Rattle.flat_language.specs.FlatForm.{FlatForm}
use Rattle.flat_language.specs.FlatMeaning.{mean, mean_task, flat_meaning_at}
use Rattle.flat_language.specs.FlatSignals.{FlatTask, form}
use Rattle.flat_language.specs.FlatState.{FlatEnvironment, FlatState}
use Rattle.flat_laws.specs.FlatLater.{FlatLater}
use Rattle.flat_laws.proofs.Runs.{law_of_flat_growth}
use Rattle.back_relation.specs.Setting.{Setting}
use Rattle.back_relation.specs.Forms.{below_at, context_at}
use Rattle.back_relation.specs.Starts.{FlatGrown}
use Rattle.back_relation.proofs.Growth.{grown_later, same_flat}

module _ (setting : Setting) where
  -- a task at k levels is later than its start
  pub task_later :
      (k : ℕ) (task : FlatTask) (env : FlatEnvironment) (around : DynamicContext) (z : FlatState)
      → FlatLater z (mean_task (context_at setting k) task env around z).state
  unfolding flat_meaning_at
  task_later zero task env around z = law_of_flat_growth setting.names setting.program setting.limit zero task env around z
  task_later (suc k) task env around z = law_of_flat_growth setting.names setting.program setting.limit (suc k) task env around z

  pub form_grows :
      (k : ℕ) (f : FlatForm) (env : FlatEnvironment) (around : DynamicContext) (z : FlatState) → FlatGrown z (mean (context_at setting k) f env around z).state
  form_grows k f env around z = grown_later (task_later k (form f) env around z)

  -- and so one level below
  pub below_grows :
      (k : ℕ) (task : FlatTask) (env : FlatEnvironment) (around : DynamicContext) (z : FlatState) → FlatGrown z (below_at setting k task env around z).state
  below_grows zero task env around z = same_flat z
  below_grows (suc k) task env around z = grown_later (law_of_flat_growth setting.names setting.program setting.limit k task env around z)
