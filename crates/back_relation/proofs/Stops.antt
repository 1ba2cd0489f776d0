-- What is said of code that stopped is said too from where code began before, and where the meaning went on.
use Rattle.std.proofs.Common.{ℕ, ◌+◌, ◌*◌, ◌≤◌, arith}
use Rattle.lang_meaning.specs.Counts.{unit_cost}
use Rattle.flat_language.specs.FlatState.{FlatState, FlatEvaluated}
use Rattle.mid_code.specs.State.{MidState, MidOutcome}
use Rattle.back_relation.specs.Setting.{Setting}
use Rattle.back_relation.specs.Ends.{Stopped}

module _ (setting : Setting) where
  -- what was done before it is paid too
  pub stopped_before :
      {c1 c : ℕ} {z z1 : FlatState} {y y1 : MidState} {r : FlatEvaluated} {q : MidOutcome}
      → y1.cost + unit_cost * z.state.units + c1 ≤ y.cost + unit_cost * z1.state.units + c
      → Stopped setting c1 z1 y1 r q → Stopped setting c z y r q
  stopped_before before x = record {
    because = x.because;
    printed = x.printed;
    paid = λ ended. omega (arith, before, x.paid ended);
  }

  -- more was paid before
  pub stopped_less :
      {c1 c : ℕ} {z : FlatState} {y : MidState} {r : FlatEvaluated} {q : MidOutcome} → c1 ≤ c
      → Stopped setting c1 z y r q → Stopped setting c z y r q
  stopped_less enough x = stopped_before (omega (arith, enough)) x
