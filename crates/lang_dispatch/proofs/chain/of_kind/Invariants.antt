-- Those of the kind so far, and then those of the rest.
use Rattle.std.proofs.Common.{◌≡◌, ◌++◌, List, drop}
use Rattle.lang_meaning.specs.declared.program.MethodRow.{MethodRow}
use Rattle.lang_meaning.specs.Classes.{of_kind}
use Rattle.lang_dispatch.specs.Chains.{ArePicked}
use Rattle.lang_dispatch.proofs.chain.of_kind.Given as goal

abbrev pub invariant-loop-at : goal.invariant-loop-at
invariant-loop-at l =
    (picked : List MethodRow) → ArePicked l.generic.methods l.order.items picked
    → l.found ++ of_kind l.kind (drop l.at picked) ≡ of_kind l.kind picked
