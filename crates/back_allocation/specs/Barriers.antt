-- Lines at which registers that are alive have to outlast calls.
use Rattle.std.specs.Prelude.{◌≡◌, ◌≢◌, ◌<◌, ℕ, ◌+◌, ◌==◌, Bool, true, false, List, slice_get, Option, Some, None}
use Rattle.std.specs.List.{list_any}
use Rattle.mid_code.specs.declared.operation.Operation.TheVariants as operation
use Rattle.mid_lines.specs.declared.line.Line.{Line}
use Rattle.mid_lines.specs.declared.line.Line.TheVariants.{Do, Cut}
use Rattle.back_liveness.specs.declared.barrier.Barrier.{Barrier}
use Rattle.back_liveness.specs.Barriers.{Crosses, barrier_at}

-- the register that has the result of a call
abbrev pub call_result : Line → Option ℕ
call_result (Do (operation.Call to callee arguments)) = Some to
call_result x = None

-- whether a cut may go from a line to landings of its activation
abbrev pub may_cut : Line → Bool
may_cut (Do (operation.Call to callee arguments)) = true
may_cut (Cut block word) = true
may_cut x = false

-- the barriers of the first lines
pub record AreBarriers (lines : List Line) (landings : ℕ → List ℕ) (count : ℕ) (barriers : List Barrier) : Type 0 where
  pub calls :
      (line to v : ℕ) (x : Line) → line < count → slice_get lines line ≡ Some x → call_result x ≡ Some to → v ≢ to
      → Crosses (barrier_at barriers (line + 1)) v
  pub landed :
      (line landing v : ℕ) (x : Line) → line < count → slice_get lines line ≡ Some x → may_cut x ≡ true
      → list_any (λ t. t == landing) (landings line) ≡ true → Crosses (barrier_at barriers landing) v
