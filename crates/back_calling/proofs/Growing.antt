-- What the meaning does in the context of a level only grows.
use Rattle.std.proofs.Common.{ℕ, zero, suc, List}
use Rattle.lang_meaning.specs.State.{DynamicContext}
use Rattle.lang_meaning.specs.Values.{Value}
use Rattle.flat_language.specs.FlatSignals.{signal, signal_domain_error}
use Rattle.flat_language.specs.FlatState.{FlatState}
use Rattle.flat_laws.specs.FlatLater.{FlatLater}
use Rattle.flat_laws.proofs.Applied.{signals, domain_signals}
use Rattle.flat_laws.proofs.Combined.{Tasks}
use Rattle.flat_laws.proofs.Later.{later_kept}
use Rattle.flat_laws.proofs.Levels.{nothing_below, levels_come}
use Rattle.back_relation.specs.Setting.{Setting}
use Rattle.back_relation.specs.Forms.{below_at, context_at}

-- the tasks one level below
pub tasks_below : (setting : Setting) (k : ℕ) → Tasks FlatLater later_kept (below_at setting k)
tasks_below setting zero = nothing_below {R = FlatLater} {k = later_kept}
tasks_below setting (suc k) = levels_come {R = FlatLater} {k = later_kept} setting.names setting.program setting.limit k

module _ (setting : Setting) (k : ℕ) where
  pub signal_later :
      (class : ℕ) (slots : List Value) (around : DynamicContext) (z : FlatState) → FlatLater z (signal (context_at setting k) class slots around z).state
  signal_later class slots around z = (signals {R = FlatLater} {k = later_kept} (context_at setting k) (tasks_below setting k) class slots around z).grows

  pub domain_error_later :
      (v : Value) (expected : ℕ) (around : DynamicContext) (z : FlatState)
      → FlatLater z (signal_domain_error (context_at setting k) (signal (context_at setting k)) v expected around z).state
  domain_error_later v expected around z =
      (domain_signals {R = FlatLater} {k = later_kept} (context_at setting k) (tasks_below setting k) (signal (context_at setting k))
      (signals {R = FlatLater} {k = later_kept} (context_at setting k) (tasks_below setting k)) v expected around z).grows
