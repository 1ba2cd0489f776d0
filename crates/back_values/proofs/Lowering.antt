-- What is said from a later first register is said from an earlier one.
use Rattle.std.proofs.Common.{ℕ, ◌≤◌, List, ◌+◌}
use Rattle.lang_meaning.specs.State.{DynamicContext}
use Rattle.lang_meaning.specs.Counts.{unit_cost}
use Rattle.flat_language.specs.FlatState.{FlatEnvironment, FlatState, FlatEvaluated}
use Rattle.mid_code.specs.State.{Registers, MidState, MidOutcome}
use Rattle.back_relation.specs.Setting.{Setting}
use Rattle.back_relation.specs.Worlds.{World, Standing}
use Rattle.back_relation.specs.Activation.{FormScope}
use Rattle.back_relation.specs.Ends.{Reached, Ends, Left, done, left_by, full_there, stopped, few_turns}
use Rattle.back_relation.proofs.Then.{registers_less}

module _ (setting : Setting) {rs valid : List Standing} {s : FormScope} {w : World} {env : FlatEnvironment} {around : DynamicContext} {z : FlatState} {regs : Registers} {y : MidState} where
  pub reached_earlier :
      {credit d e : ℕ} {w' : World} {z' : FlatState} {regs' : Registers} {y' : MidState} → d ≤ e
      → Reached setting credit s e rs valid w w' env around z z' regs regs' y y' → Reached setting credit s d rs valid w w' env around z z' regs regs' y y'
  reached_earlier l x = record {
    kept = record { world = x.kept.world; activation = x.kept.activation; registers = registers_less l x.kept.registers };
    back = x.back;
  }

  pub left_earlier :
      {credit d e : ℕ} {r : FlatEvaluated} {q : MidOutcome} → d ≤ e → Left setting credit rs valid s e w env around z regs y r q
      → Left setting credit rs valid s d w env around z regs y r q
  left_earlier l x = record { transfer = x.transfer; activation = x.activation; registers = registers_less l x.registers }

  pub ends_earlier :
      {D : Type 0} {credit d e turns : ℕ} {r : FlatEvaluated} {q : MidOutcome} → d ≤ e
      → Ends setting (credit + unit_cost) D (Left setting credit rs valid s e w env around z regs y r q) turns z y r q
      → Ends setting (credit + unit_cost) D (Left setting credit rs valid s d w env around z regs y r q) turns z y r q
  ends_earlier l (done x) = done x
  ends_earlier l (left_by x) = left_by (left_earlier l x)
  ends_earlier l (full_there x) = full_there x
  ends_earlier l (stopped x) = stopped x
  ends_earlier l (few_turns x) = few_turns x
