-- What a signal does in the meaning only grows.
use Rattle.std.proofs.Common.{ℕ, zero, suc, List}
use Rattle.lang_meaning.specs.State.{DynamicContext}
use Rattle.lang_meaning.specs.Values.{Value}
use Rattle.flat_language.specs.FlatSignals.{signal}
use Rattle.flat_language.specs.FlatState.{FlatState}
use Rattle.flat_laws.specs.FlatLater.{FlatLater}
use Rattle.flat_laws.proofs.Applied.{signals}
use Rattle.flat_laws.proofs.Combined.{Tasks}
use Rattle.flat_laws.proofs.Later.{later_kept}
use Rattle.flat_laws.proofs.Levels.{nothing_below, levels_come}
use Rattle.back_relation.specs.Setting.{Setting}
use Rattle.back_relation.specs.Forms.{below_at, context_at}
use Rattle.back_relation.specs.Starts.{FlatGrown}
use Rattle.back_relation.proofs.Growth.{grown_later}

tasks_below : (setting : Setting) (k : ℕ) → Tasks FlatLater later_kept (below_at setting k)
tasks_below setting zero = nothing_below {R = FlatLater} {k = later_kept}
tasks_below setting (suc k) = levels_come {R = FlatLater} {k = later_kept} setting.names setting.program setting.limit k

pub signal_grows :
    (setting : Setting) (k class : ℕ) (slots : List Value) (around : DynamicContext) (z : FlatState)
    → FlatGrown z (signal (context_at setting k) class slots around z).state
signal_grows setting k class slots around z =
    grown_later (signals {R = FlatLater} {k = later_kept} (context_at setting k) (tasks_below setting k) class slots around z).grows
