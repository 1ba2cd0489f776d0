-- The procedures so far.
use Rattle.std.proofs.Common.{take}
use Rattle.base.specs.AllOf.{AllOf}
use Rattle.back_laying.specs.Fits.{IsSmall}
use Rattle.back_laying.proofs.chains.all_small.Given as goal

abbrev pub invariant-loop-at : goal.invariant-loop-at
invariant-loop-at l = AllOf IsSmall (take l.at l.procedures)
