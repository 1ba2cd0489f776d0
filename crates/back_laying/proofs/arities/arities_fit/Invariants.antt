-- The procedures so far.
use Rattle.std.proofs.Common.{◌^◌, ◌<◌, length, take}
use Rattle.base.specs.AllOf.{AllOf}
use Rattle.flat_language.specs.declared.program.FlatProcedure.{FlatProcedure}
use Rattle.back_laying.proofs.arities.arities_fit.Given as goal

abbrev pub invariant-loop-at : goal.invariant-loop-at
invariant-loop-at l = AllOf (λ (q : FlatProcedure). length q.required < 2 ^ 30) (take l.at l.procedures)
